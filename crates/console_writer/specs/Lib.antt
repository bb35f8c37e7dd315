pub mod WriterLines
