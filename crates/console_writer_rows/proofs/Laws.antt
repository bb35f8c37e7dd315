-- What an arm leaves and answers is the row's.
use Prim.Native.Nat.{ℕ}
use mathlib.Core.Path.{◌≡◌, sym, subst}
use mathlib.Core.List.{List}
use Rattle.writer_state.specs.declared.Writer.{Writer}
use Rattle.printing.specs.Text.{Behind}
use Rattle.command_rows.specs.declared.Writing.{Writing}
use Rattle.console_writer.specs.WriterLines.{Composing}

pub by_row : (f : Writing → Composing) {row x : Writing} {writer : Writer} {lent before after : List ℕ} {r : ℕ}
    → row ≡ x
    → writer ≡ (f x).writer
    → lent ≡ (f x).lent
    → Behind before after 0 r (f x).answer
    → (writer ≡ (f row).writer) × ((lent ≡ (f row).lent) × Behind before after 0 r (f row).answer)
by_row f {writer = writer} {lent} {before} {after} {r} p a b t =
    subst (λ (y : Writing). (writer ≡ (f y).writer) × ((lent ≡ (f y).lent) × Behind before after 0 r (f y).answer)) (sym p) (a, (b, t))
