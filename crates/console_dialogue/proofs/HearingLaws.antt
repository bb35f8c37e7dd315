-- Laws of hearing, in the order of specs/Input. Octets are heard one by one, so laws about a line of them go by induction over it with what was heard of the line before (`hear_on`, `hear_in`,
-- `say_on`, `say_in`); that what is kept is cut makes no difference (`cut_twice`). The last ones put them into the words of the code's calls.
use Prim.Native.Nat.{ℕ, suc, ◌+◌, ◌-◌, ◌≤◌, ◌<◌, min}
use mathlib.Core.Path.{◌≡◌, refl, sym, ◌∙◌, ap}
use mathlib.Core.Bool.{Bool, true, false}
use mathlib.Core.List.{List, [], ◌∷◌, ◌++◌, append_assoc, append-nil}
use lib.Dec.{eqb, leb}
use lib.ListN.{length, take, drop, length-take, length-drop, drop_of_length-le}
use lib.Seq.{take_all, take-append-add, take-append-le, take-take, length-take-le, drop-drop}
use native.Mathlib.Omega.{arith}
use borrow.Author.Tests.{leb-true, leb-false}
use Rattle.words.specs.Words.{newline, until_mark, behind_mark}
use Rattle.words.proofs.Laws.{behind_drop}
use Rattle.octets.specs.Octets.{placed}
use Rattle.printing.specs.Text.{Behind}
use Rattle.printing.proofs.Laws.{behind_placed}
use Rattle.console_state.specs.State.{Console}
use Rattle.console_state.proofs.Laws.{take_fit}
use Rattle.console_dialogue.specs.Turns.{turn_of}
use Rattle.console_dialogue.specs.Input.{ReadyToHear, Dialogue, next_number, turn_now, line_ended, most_kept, longer, hear_all, say_all}

-- ## What is kept

pub cut_append : (m : ℕ) (a p : List ℕ) → length a ≤ m → take m (a ++ p) ≡ a ++ take (m - length a) p
cut_append m a p h = let e : length a + (m - length a) ≡ m = omega arith in rw e at (take-append-add a p (m - length a))

-- What was cut makes no difference to what is kept.
pub cut_twice : (m : ℕ) (a b : List ℕ) → take m (take m a ++ b) ≡ take m (a ++ b)
cut_twice m a b = go (leb (length a) m) refl where
  go : (t : Bool) → leb (length a) m ≡ t → take m (take m a ++ b) ≡ take m (a ++ b)
  go true h = let l = leb-true (length a) m h in rw (take_all m a l)
  go false h =
      let l = leb-false (length a) m h in
      let k = length-take-le m a (omega arith) in
      take-append-le m (take m a) b (omega arith) ∙ (take-take m m a (omega arith) ∙ sym (take-append-le m a b (omega arith)))

pub longer_twice : (g : Dialogue) (p q : List ℕ) → longer (longer g p) q ≡ longer g (p ++ q)
unfolding longer
longer_twice g p q = rw (cut_twice most_kept (g.line ++ p) q, append_assoc)

pub longer_none : (g : Dialogue) → length g.line ≤ most_kept → longer g [] ≡ g
unfolding longer
longer_none g h = rw (append-nil, take_all most_kept g.line h)

-- ## Lines

-- Octets with a newline: the line before it is answered, and what is behind it is heard next.
hear_on : (g : Dialogue) (p xs : List ℕ) → length (until_mark xs newline) < length xs
    → hear_all (longer g p) xs ≡ hear_all (line_ended (longer g (p ++ until_mark xs newline))) (behind_mark xs newline)
unfolding hear_all until_mark behind_mark
hear_on g p [] h = absurd (omega arith)
hear_on g p (x ∷ xs) h = go (eqb x newline) refl (λ k. hear_on g (p ++ (x ∷ [])) xs k) where
  go : (t : Bool) → eqb x newline ≡ t
      → (length (until_mark xs newline) < length xs
      → hear_all (longer g (p ++ (x ∷ []))) xs ≡ hear_all (line_ended (longer g ((p ++ (x ∷ [])) ++ until_mark xs newline))) (behind_mark xs newline))
      → hear_all (longer g p) (x ∷ xs) ≡ hear_all (line_ended (longer g (p ++ until_mark (x ∷ xs) newline))) (behind_mark (x ∷ xs) newline)
  go true e ih = rw (e, append-nil)
  go false e ih =
      let k = rw e at h in
      rw (e, longer_twice) (ih (omega arith) ∙ rw append_assoc)

-- Octets without one are more of the line.
hear_in : (g : Dialogue) (p xs : List ℕ) → length xs ≤ length (until_mark xs newline) → hear_all (longer g p) xs ≡ longer g (p ++ until_mark xs newline)
unfolding hear_all until_mark
hear_in g p [] h = rw append-nil
hear_in g p (x ∷ xs) h = go (eqb x newline) refl (λ k. hear_in g (p ++ (x ∷ [])) xs k) where
  go : (t : Bool) → eqb x newline ≡ t
      → (length xs ≤ length (until_mark xs newline) → hear_all (longer g (p ++ (x ∷ []))) xs ≡ longer g ((p ++ (x ∷ [])) ++ until_mark xs newline))
      → hear_all (longer g p) (x ∷ xs) ≡ longer g (p ++ until_mark (x ∷ xs) newline)
  go true e ih = let k = rw e at h in absurd (omega arith)
  go false e ih =
      let k = rw e at h in
      rw (e, longer_twice) (ih (omega arith) ∙ rw append_assoc)

say_on : (g : Dialogue) (p xs : List ℕ) → length (until_mark xs newline) < length xs
    → say_all (longer g p) xs ≡ (turn_now (longer g (p ++ until_mark xs newline))).answer ++ say_all (line_ended (longer g (p ++ until_mark xs newline))) (behind_mark xs newline)
unfolding say_all until_mark behind_mark
say_on g p [] h = absurd (omega arith)
say_on g p (x ∷ xs) h = go (eqb x newline) refl (λ k. say_on g (p ++ (x ∷ [])) xs k) where
  go : (t : Bool) → eqb x newline ≡ t
      → (length (until_mark xs newline) < length xs
      → say_all (longer g (p ++ (x ∷ []))) xs
      ≡ (turn_now (longer g ((p ++ (x ∷ [])) ++ until_mark xs newline))).answer
      ++ say_all (line_ended (longer g ((p ++ (x ∷ [])) ++ until_mark xs newline))) (behind_mark xs newline))
      → say_all (longer g p) (x ∷ xs)
      ≡ (turn_now (longer g (p ++ until_mark (x ∷ xs) newline))).answer
      ++ say_all (line_ended (longer g (p ++ until_mark (x ∷ xs) newline))) (behind_mark (x ∷ xs) newline)
  go true e ih = rw (e, append-nil)
  go false e ih =
      let k = rw e at h in
      rw (e, longer_twice) (ih (omega arith) ∙ rw append_assoc)

say_in : (g : Dialogue) (p xs : List ℕ) → length xs ≤ length (until_mark xs newline) → say_all (longer g p) xs ≡ []
unfolding say_all until_mark
say_in g p [] h = refl
say_in g p (x ∷ xs) h = go (eqb x newline) refl (λ k. say_in g (p ++ (x ∷ [])) xs k) where
  go : (t : Bool) → eqb x newline ≡ t → (length xs ≤ length (until_mark xs newline) → say_all (longer g (p ++ (x ∷ []))) xs ≡ []) → say_all (longer g p) (x ∷ xs) ≡ []
  go true e ih = let k = rw e at h in absurd (omega arith)
  go false e ih = let k = rw e at h in rw (e, longer_twice) (ih (omega arith))

-- What is left after a line, or after all that was read, gives the whole.
module _ (g : Dialogue) (small : length g.line ≤ most_kept) (xs : List ℕ) where
  pub hear_line : length (until_mark xs newline) < length xs
      → hear_all (line_ended (longer g (until_mark xs newline))) (drop (suc (length (until_mark xs newline))) xs) ≡ hear_all g xs
  hear_line h = rw (← behind_drop newline xs) (sym (hear_on g [] xs h) ∙ rw (longer_none g small))

  pub hear_part : length xs ≤ length (until_mark xs newline) → longer g (until_mark xs newline) ≡ hear_all g xs
  hear_part h = sym (hear_in g [] xs h) ∙ rw (longer_none g small)

  pub say_line : length (until_mark xs newline) < length xs
      → (turn_now (longer g (until_mark xs newline))).answer ++ say_all (line_ended (longer g (until_mark xs newline))) (drop (suc (length (until_mark xs newline))) xs) ≡ say_all g xs
  say_line h = rw (← behind_drop newline xs) (sym (say_on g [] xs h) ∙ rw (longer_none g small))

  pub say_part : length xs ≤ length (until_mark xs newline) → [] ≡ say_all g xs
  say_part h = sym (say_in g [] xs h) ∙ rw (longer_none g small)

pub hear_none : (g : Dialogue) → hear_all g [] ≡ g
unfolding hear_all
hear_none g = refl

pub say_none : (g : Dialogue) → say_all g [] ≡ []
unfolding say_all
say_none g = refl

-- ## Text

-- A text at a buffer's start is no longer than the buffer.
pub text_within : {before after more : List ℕ} {end : ℕ} → Behind before after 0 end more → end ≤ length before
text_within {after = after} {more = more} {end = end} b =
    let t = ap length b.text in
    let k = length-take end after in
    omega (arith, b.ends, b.room)

-- ## What the code keeps, answers and takes in

pub kept_more : (line part out : List ℕ) (kept n : ℕ) → kept ≤ length line → n ≡ min (length line - kept) (length part) → out ≡ placed line kept (take n part)
    → take (kept + n) out ≡ take (length line) (take kept line ++ part)
kept_more line part out kept n h e p =
    let l = length-take-le kept line h in
    let w = length-take-le n part (omega arith) in
    let b = behind_placed line (take n part) kept (omega arith) in
    let c = cut_append (length line) (take kept line) part (omega arith) in
    rw p (rw w at b.text ∙ (rw (take_fit (length line - kept) part e) (sym (rw l at c))))

pub ended_made : (g : Dialogue) {k : Console} {n : ℕ} → n ≡ next_number g.lines → k ≡ (turn_of g.console g.line n).console
    → record { console = k; lines = n; line = [] } ≡ line_ended g
unfolding line_ended turn_now
ended_made g p q = rw (q, p)

pub turn_told : (g : Dialogue) {n end : ℕ} {before after : List ℕ} → n ≡ next_number g.lines → Behind before after 0 end (turn_of g.console g.line n).answer
    → Behind before after 0 end (turn_now g).answer
unfolding turn_now
turn_told g p b = rw (← p) b

pub longer_made : (g : Dialogue) (part u l : List ℕ) (m : ℕ) → part ≡ u → m ≡ most_kept → l ≡ take m (g.line ++ part)
    → record { console = g.console; lines = g.lines; line = l } ≡ longer g u
unfolding longer
longer_made g part u l m p q e = rw (e, q, p)

module _ (g : Dialogue) (small : length g.line ≤ most_kept) (read : List ℕ) (at : ℕ) (part : List ℕ) (same : part ≡ until_mark (drop at read) newline) (there : at ≤ length read) (h : Dialogue)
    (more : h ≡ longer g (until_mark (drop at read) newline)) where
  next_drop : drop (at + length part + 1) read ≡ drop (suc (length (until_mark (drop at read) newline))) (drop at read)
  next_drop =
      let e : at + length part + 1 ≡ at + suc (length (until_mark (drop at read) newline)) = omega (arith, ap length same) in
      rw (e, drop-drop)

  before_end : at + length part < length read → length (until_mark (drop at read) newline) < length (drop at read)
  before_end l = omega (arith, ap length same, length-drop at read)

  at_end : length read ≤ at + length part → length (drop at read) ≤ length (until_mark (drop at read) newline)
  at_end l = omega (arith, ap length same, length-drop at read)

  pub heard_line : {k : Dialogue} → k ≡ line_ended h → at + length part < length read → hear_all k (drop (at + length part + 1) read) ≡ hear_all g (drop at read)
  heard_line e l = rw (e, more, next_drop) (hear_line g small (drop at read) (before_end l))

  pub said_line : {k : Dialogue} {text : List ℕ} → k ≡ line_ended h → text ≡ (turn_now h).answer → at + length part < length read
      → text ++ say_all k (drop (at + length part + 1) read) ≡ say_all g (drop at read)
  said_line e t l = rw (t, e, more, next_drop) (say_line g small (drop at read) (before_end l))

  pub heard_part : length read ≤ at + length part → hear_all h (drop (length read) read) ≡ hear_all g (drop at read)
  heard_part l = rw (drop_of_length-le read {i = length read} (omega arith), hear_none) (more ∙ hear_part g small (drop at read) (at_end l))

  pub said_part : length read ≤ at + length part → say_all h (drop (length read) read) ≡ say_all g (drop at read)
  said_part l = rw (drop_of_length-le read {i = length read} (omega arith), say_none) (say_part g small (drop at read) (at_end l))

-- ## What is lent

-- Whether it is large enough goes by lengths alone.
pub still_ready : {k k' : ℕ} {line line' store store' memory memory' room room' out out' : List ℕ} → ReadyToHear k line store memory room out
    → length line' ≡ length line
    → length store' ≡ length store
    → length memory' ≡ length memory
    → length room' ≡ length room
    → length out' ≡ length out
    → k' ≤ length line
    → ReadyToHear k' line' store' memory' room' out'
still_ready p a b c d e h = record {
  within = omega arith;
  whole = a ∙ p.whole;
  rooms = record {
    spells = omega (arith, p.rooms.spells);
    buffer = omega (arith, p.rooms.buffer);
    stored = omega (arith, p.rooms.stored);
    lent = omega (arith, p.rooms.lent);
    listed = omega (arith, p.rooms.listed);
  };
}
