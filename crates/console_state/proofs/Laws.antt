-- Laws of what a command answers by and of the octets of a lent buffer's start.
use Prim.Native.Nat.{ℕ, zero, suc, ◌-◌, ◌≤◌, ◌<◌, min}
use mathlib.Core.Path.{◌≡◌, refl, sym, ap}
use mathlib.Core.Bool.{Bool, true, false}
use mathlib.Core.List.{List, []}
use lib.ListN.{length, take, drop, drop_of_length-le, length-drop}
use lib.Seq.{take_at, take_all, take-length}
use lib.Dec.{leb}
use native.Mathlib.Omega.{arith}
use borrow.Author.Tests.{eq-eqb, ne_eqb, leb-true, leb-false}
use Rattle.answers.specs.declared.verdict.Verdict.{Verdict}
use Rattle.octets.specs.Octets.{over}
use Rattle.printing.specs.Text.{Behind}
use Rattle.console_lines.specs.Lines.{refusal_line}
use Rattle.command_forms.specs.Forms.{most_size}
use Rattle.session.proofs.Laws.{opened_back}
use Rattle.console_state.specs.declared.state.State.{State}
use Rattle.console_state.specs.State.{Console, console_of, list_in}
use Rattle.console_state.specs.Answers.{answer_line}

-- ## Answers

module _ {before after : List ℕ} {end : ℕ} (v : Verdict) (accepted : List ℕ) where
  pub told_refused : (v.number ≡ 0 → ⊥) → Behind before after 0 end (refusal_line v.number v.place) → Behind before after 0 end (answer_line v accepted)
  unfolding answer_line
  told_refused h b = rw (ne_eqb v.number 0 h) b

  pub told_accepted : v.number ≡ 0 → Behind before after 0 end accepted → Behind before after 0 end (answer_line v accepted)
  unfolding answer_line
  told_accepted h b = rw (eq-eqb v.number 0 h) b

-- ## Octets

pub take_over : (w b : List ℕ) (n : ℕ) → n ≡ length w → take n (over w b) ≡ w
unfolding over
take_over w b n e = take_at w (drop (length w) b) n (sym e)

-- The octets that a word spells, where they were laid over the start of a room.
pub spelled : (w b : List ℕ) {room : List ℕ} {n : ℕ} → (n ≡ length w) × (room ≡ over w b) → take n room ≡ w
spelled w b {n = n} (e, f) = rw f (take_over w b n e)

-- A size is cut to what there is.
pub take_fit : (size : ℕ) (m : List ℕ) {n : ℕ} → n ≡ min size (length m) → take n m ≡ take size m
take_fit size m {n} e = go (leb size (length m)) refl where
  go : (b : Bool) → leb size (length m) ≡ b → take n m ≡ take size m
  go true h = let l = leb-true size (length m) h in let k : n ≡ size = omega arith in rw k
  go false h =
      let l = leb-false size (length m) h in
      let k : n ≡ length m = omega arith in
      rw (k, take-length) (sym (take_all size m (omega arith)))

-- The list of addresses, where the memory ends before it and where it doesn't.
take_none : (n : ℕ) → take {A = ℕ} n [] ≡ []
take_none zero = refl
take_none (suc n) = refl

pub list_short : (given : ℕ) (m : List ℕ) → length m < most_size → [] ≡ list_in m given
unfolding list_in
list_short given m h = let k : length m ≤ most_size = omega (arith, h) in rw (drop_of_length-le m k) (sym (take_none given))

pub list_part : (given : ℕ) (m : List ℕ) {n : ℕ} → n ≡ min given (length (take (length m - most_size) (drop most_size m))) → take n (take (length m - most_size) (drop most_size m)) ≡ list_in m given
unfolding list_in
list_part given m {n} e =
    let t = take_all (length m - most_size) (drop most_size m) (omega (arith, length-drop most_size m)) in
    rw t (take_fit given (drop most_size m) (rw t at e))

-- ## The console

-- Two states that stand for one console hold the same answers to both OPENs; board, writer and positions are the console's own.
module _ (r q : State) (a b l m : List ℕ) (e : console_of r a l ≡ console_of q b m) where
  pub pcc_back : r.pcc ≡ q.pcc
  pcc_back = opened_back r.pcc q.pcc (ap (λ (k : Console). k.pcc) e)

  pub pce_back : r.pce ≡ q.pce
  pce_back = opened_back r.pce q.pce (ap (λ (k : Console). k.pce) e)
