-- What is behind the octets of a line that are kept makes no difference: the console says to lines of any length what it says to what is kept.
use Prim.Native.Nat.{ℕ, zero, suc, ◌≤◌, ◌<◌}
use mathlib.Core.Path.{◌≡◌, refl, ◌∙◌, ap}
use mathlib.Core.Bool.{Bool, true, false, cond}
use mathlib.Core.List.{List, [], ◌∷◌, ◌++◌}
use lib.Dec.{eqb, leb}
use lib.ListN.{length, take}
use lib.Seq.{take_all, length-take-le}
use native.Mathlib.Omega.{arith}
use borrow.Author.Tests.{lt-ltb, leb-true, leb-false}
use Rattle.words.specs.Words.{newline}
use Rattle.command_forms.specs.declared.verb.Verb.TheVariants as v
use Rattle.command.specs.declared.Command.{Command}
use Rattle.command.specs.Commands.{skipped, longest_line, bare_command, command_of}
use Rattle.console_state.specs.State.{Console}
use Rattle.console_dialogue.specs.Turns.{turn_by, turn_of}
use Rattle.console_dialogue.specs.Input.{Dialogue, turn_now, line_ended, most_kept, longer, say_all}
use Rattle.console_dialogue.proofs.HearingLaws.{cut_twice}

-- ## One line

skipped_cut : (m : ℕ) (line : List ℕ) → 0 < m → skipped (take m line) ≡ skipped line
unfolding skipped
skipped_cut zero line h = absurd (omega arith)
skipped_cut (suc m) [] h = refl
skipped_cut (suc m) (x ∷ xs) h = refl

abbrev unread : Bool → Command
unread skip = cond skip (bare_command v.Skip) (bare_command v.Bad)

too_long : (line : List ℕ) → longest_line < length line → command_of line ≡ unread (skipped line)
unfolding command_of
too_long line h = rw (lt-ltb longest_line (length line) h)

unread_turn : (skip : Bool) (k : Console) (a b : List ℕ) (n : ℕ) → turn_by (unread skip).verb k (unread skip) a n ≡ turn_by (unread skip).verb k (unread skip) b n
unread_turn true k a b n = refl
unread_turn false k a b n = refl

pub turn_cut : (m : ℕ) → most_kept ≤ m → (k : Console) (line : List ℕ) (n : ℕ) → turn_of k (take m line) n ≡ turn_of k line n
unfolding turn_of
turn_cut m h k line n = go (leb (length line) m) refl where
  go : (t : Bool) → leb (length line) m ≡ t → turn_of k (take m line) n ≡ turn_of k line n
  go true e = rw (take_all m line (leb-true (length line) m e))
  go false e =
      let l = leb-false (length line) m e in
      let c = length-take-le m line (omega arith) in
      rw (too_long (take m line) (omega arith), skipped_cut m line (omega arith), too_long line (omega arith)) (unread_turn (skipped line) k (take m line) line n)

-- ## All lines

-- More of a line that is kept whole.
abbrev pub whole_longer : Dialogue → List ℕ → Dialogue
whole_longer g more = record { console = g.console; lines = g.lines; line = g.line ++ more }

-- The answers to lines that are kept whole.
unfoldable pub say_lines : Dialogue → List ℕ → List ℕ
say_lines g [] = []
say_lines g (x ∷ xs) = cond (eqb x newline) ((turn_now g).answer ++ say_lines (line_ended g) xs) (say_lines (whole_longer g (x ∷ [])) xs)

abbrev pub cut : Dialogue → Dialogue
cut g = record { console = g.console; lines = g.lines; line = take most_kept g.line }

now_cut : (g : Dialogue) → turn_now (cut g) ≡ turn_now g
unfolding turn_now
now_cut g = turn_cut most_kept (omega arith) g.console g.line _

ended_cut : (g : Dialogue) → line_ended (cut g) ≡ line_ended g
unfolding line_ended
ended_cut g = rw (now_cut g)

longer_cut : (g : Dialogue) (more : List ℕ) → longer (cut g) more ≡ cut (whole_longer g more)
unfolding longer
longer_cut g more = rw (cut_twice most_kept g.line more)

ended_whole : (g : Dialogue) → line_ended g ≡ cut (line_ended g)
unfolding line_ended
ended_whole g = refl

pub say_cut : (g : Dialogue) (xs : List ℕ) → say_all (cut g) xs ≡ say_lines g xs
unfolding say_all say_lines
say_cut g [] = refl
say_cut g (x ∷ xs) = go (eqb x newline) refl (say_cut (line_ended g) xs) (say_cut (whole_longer g (x ∷ [])) xs) where
  go : (t : Bool) → eqb x newline ≡ t → say_all (cut (line_ended g)) xs ≡ say_lines (line_ended g) xs → say_all (cut (whole_longer g (x ∷ []))) xs ≡ say_lines (whole_longer g (x ∷ [])) xs
      → say_all (cut g) (x ∷ xs) ≡ say_lines g (x ∷ xs)
  go true e p q = rw (e, now_cut g, ended_cut g) (ap (λ (t : List ℕ). (turn_now g).answer ++ t) (ap (λ (h : Dialogue). say_all h xs) (ended_whole g) ∙ p))
  go false e p q = rw (e, longer_cut g (x ∷ [])) q
