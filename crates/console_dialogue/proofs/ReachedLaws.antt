-- From how the console stands on to how it stands next.
use Prim.Native.Nat.{ℕ, ◌≤◌}
use mathlib.Core.Path.{◌≡◌, refl, ◌∙◌}
use mathlib.Core.List.{List, [], ◌∷◌, ◌++◌}
use lib.ListN.{length, drop, drop_of_length-le}
use Rattle.words.specs.Words.{newline}
use Rattle.console_state.specs.declared.state.State.{State}
use Rattle.console_state.specs.State.{state_at_start, store_at_start, writer_part, list_in}
use Rattle.console_dialogue.proofs.Portions.{hear_append}
use Rattle.console_dialogue.specs.Input.{Dialogue, heard_at_start, heard_of, hear_all, line_ended}
use Rattle.console_dialogue.specs.Reached.{Reached}

pub reached_start : {g : Dialogue} → g ≡ heard_at_start → Reached g
unfolding hear_all
reached_start e = record { input = []; same = e }

pub reached_more : {g h : Dialogue} (xs : List ℕ) → h ≡ hear_all g xs → Reached g → Reached h
reached_more xs e r = record { input = r.input ++ xs; same = e ∙ (rw r.same (hear_append heard_at_start r.input xs)) }

ended_newline : (g : Dialogue) → line_ended g ≡ hear_all g (newline ∷ [])
unfolding hear_all
ended_newline g = refl

pub reached_ended : {g h : Dialogue} → h ≡ line_ended g → Reached g → Reached h
reached_ended {g} e r = reached_more (newline ∷ []) (e ∙ ended_newline g) r

pub heard_all : (g : Dialogue) (read : List ℕ) (at : ℕ) → length read ≤ at → hear_all g (drop at read) ≡ g
unfolding hear_all
heard_all g read at h = rw (drop_of_length-le read h)

pub start_made : {s : State} {store : List ℕ} (line memory : List ℕ) → s ≡ state_at_start → store ≡ store_at_start
    → heard_of (record { state = s; kept = 0; lines = 0 }) store memory line ≡ heard_at_start
unfolding writer_part list_in
start_made line memory p q = rw (p, q)
