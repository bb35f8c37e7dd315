-- Laws of the writer's commands, in the order of specs/WriterLines.
use Prim.Native.Nat.{ℕ, zero, suc, ◌+◌, ◌<◌, min}
use mathlib.Core.Path.{◌≡◌, refl}
use mathlib.Core.Bool.{Bool, true, false, cond}
use mathlib.Core.List.{List, ◌++◌, append-nil}
use lib.Dec.{ltb, leb}
use lib.ListN.{length, take, drop, set, replicate, length-replicate, get_or-replicate, drop_of_length-le}
use lib.Seq.{take_at, take_all}
use native.Mathlib.Omega.{arith}
use borrow.Author.Tests.{leb-true, leb-false, lt-ltb, le-ltb, ltb-true, ltb-false}
use Rattle.octets.proofs.Laws.{copied, copied_more}
use Rattle.writer_state.specs.declared.Writer.{Writer}
use Rattle.writer_state.specs.Answers.{answered}
use Rattle.writer_begin_finish.specs.Ends.{begin_number, begin_answer}
use Rattle.console_writer.specs.WriterLines.{fresh_octet, fresh_buffer}

-- ## The part of a memory that is lent

-- What was written into that part is the new one.
pub lent_back : (size : ℕ) (m y : List ℕ) {n : ℕ} → n ≡ min size (length m) → length y ≡ n → take size (y ++ drop n m) ≡ y
lent_back size m y {n} e q = go (leb size (length m)) refl where
  go : (b : Bool) → leb size (length m) ≡ b → take size (y ++ drop n m) ≡ y
  go true h = let l = leb-true size (length m) h in take_at y (drop n m) size (omega arith)
  go false h =
      let l = leb-false size (length m) h in
      rw (drop_of_length-le m {i = n} (omega arith), append-nil) (take_all size y (omega arith))

-- ## Begin

pub length_fresh : (size : ℕ) → length (fresh_buffer size) ≡ size
unfolding fresh_buffer
length_fresh size = length-replicate size fresh_octet

pub filled_more : (b : List ℕ) (i : ℕ) → i < length b → set (copied b (fresh_buffer (length b)) i) i fresh_octet ≡ copied b (fresh_buffer (length b)) (i + 1)
unfolding fresh_buffer
filled_more b i h =
    let l = length-replicate {A = ℕ} (length b) fresh_octet in
    rw (get_or-replicate {A = ℕ} (length b) i fresh_octet 0 h) at (copied_more b (replicate (length b) fresh_octet) i h (omega arith))

pub filled_all : (b : List ℕ) → copied b (fresh_buffer (length b)) (length b) ≡ fresh_buffer (length b)
filled_all b =
    let l = length_fresh (length b) in
    rw (drop_of_length-le b {i = length b} (omega arith), append-nil) (take_all (length b) (fresh_buffer (length b)) (omega arith))

number_trial : (k size : ℕ) → k ≡ min size 4 → begin_number k ≡ begin_number size
unfolding begin_number
number_trial k size e = go (ltb size 4) refl where
  go : (b : Bool) → ltb size 4 ≡ b → ◌≡◌ {A = ℕ} (cond (ltb k 4) 16 0) (cond (ltb size 4) 16 0)
  go true h = let l = ltb-true size 4 h in rw (h, lt-ltb k 4 (omega arith))
  go false h = let l = ltb-false size 4 h in rw (h, le-ltb k 4 (omega arith))

-- A begin in the first octets of 4 is answered as one in the new buffer.
pub begin_trial : (b : List ℕ) (size : ℕ) (w : Writer) (ero : Bool) (pst : ℕ) → length b ≡ min size 4
    → begin_answer b w ero pst ≡ begin_answer (fresh_buffer size) w ero pst
unfolding begin_answer
begin_trial b size w ero pst e = rw (length_fresh size, number_trial (length b) size e)

refused_writer : (n : ℕ) (old new : Writer) → ((answered n old new).verdict.number ≡ 0 → ⊥) → old ≡ (answered n old new).writer
refused_writer zero old new h = absurd (h refl)
refused_writer (suc n) old new h = refl

pub begin_keeps : (b : List ℕ) (w : Writer) (ero : Bool) (pst : ℕ) → ((begin_answer b w ero pst).verdict.number ≡ 0 → ⊥) → w ≡ (begin_answer b w ero pst).writer
unfolding begin_answer
begin_keeps b w ero pst h = refused_writer (begin_number (length b)) w _ h
