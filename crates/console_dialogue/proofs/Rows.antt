-- A turn, from what the call of its group of rows promises: one law to a group. The table computes to the group's definition row by row (`refl`), and `does` carries what the call left and said
-- along that.
use Prim.Native.Nat.{ℕ}
use mathlib.Core.Path.{◌≡◌, refl, sym, ◌∙◌, ap}
use mathlib.Core.List.{List}
use Rattle.session.specs.declared.Sessions.{Sessions}
use Rattle.board_record.specs.declared.record.Board.{Board}
use Rattle.printing.specs.Text.{Behind}
use Rattle.command_forms.specs.declared.verb.Verb.{Verb}
use Rattle.command.specs.declared.Command.{Command}
use Rattle.command.specs.Commands.{command_of}
use Rattle.command_rows.specs.declared.Row.{Row}
use Rattle.command_rows.specs.declared.Asking.{Asking}
use Rattle.command_rows.specs.declared.Asking.TheVariants as a
use Rattle.command_rows.specs.declared.Writing.{Writing}
use Rattle.command_rows.specs.declared.Writing.TheVariants as w
use Rattle.command_rows.specs.declared.Changing.{Changing}
use Rattle.command_rows.specs.declared.Changing.TheVariants as g
use Rattle.command_rows.specs.declared.Looking.{Looking}
use Rattle.command_rows.specs.declared.Looking.TheVariants as l
use Rattle.command_rows.specs.Rows.{row_verb, asked, written, changes, looked}
use Rattle.console_state.specs.declared.state.State.{State}
use Rattle.console_state.specs.State.{Console, list_in, console_of, with_board}
use Rattle.console_board.specs.BoardLines.{Boarding}
use Rattle.console_route_rows.specs.Asked.{asked_line}
use Rattle.console_writer_rows.specs.Written.{written_turn}
use Rattle.console_board_rows.specs.Boarded.{changed_turn, looked_line}
use Rattle.console_dialogue.specs.Turns.{Turned, stays, composes, boards, agreed_in, turn_by, Does}
use Rattle.console_dialogue.proofs.TurnLaws.{does, parts}

-- The verb of a row that is known.
pub verb_in_lem : {row : Row} {verb : Verb} (x : Row) → row_verb row ≡ verb → row ≡ x → verb ≡ row_verb x
verb_in_lem x p q = sym p ∙ ap row_verb q

-- ## The table, group by group

asks_row : (x : Asking) (k : Console) (c : Command) (line : List ℕ) (n : ℕ) → turn_by (asked x) k c line n ≡ stays k (asked_line x c line (agreed_in k) k.addresses)
asks_row a.Ero k c line n = refl
asks_row a.Rro k c line n = refl
asks_row a.EroSegment k c line n = refl
asks_row a.RroSegment k c line n = refl

pub writes_row : (x : Writing) (k : Console) (c : Command) (line : List ℕ) (n : ℕ) → turn_by (written x) k c line n ≡ composes k (written_turn x k.writer k.lent c line)
writes_row w.Begin k c line n = refl
writes_row w.Add k c line n = refl
writes_row w.Finish k c line n = refl
writes_row w.Lent k c line n = refl

changes_row : (x : Changing) (k : Console) (c : Command) (line : List ℕ) (n : ℕ)
    → turn_by (changes x) k c line n ≡ boards k (changed_turn x k.board k.store c line (agreed_in k) k.addresses)
changes_row g.Report k c line n = refl
changes_row g.Remove k c line n = refl
changes_row g.Compact k c line n = refl

looks_row : (x : Looking) (k : Console) (c : Command) (line : List ℕ) (n : ℕ) → turn_by (looked x) k c line n ≡ stays k (looked_line x k.board k.store c)
looks_row l.Body k c line n = refl
looks_row l.Next k c line n = refl
looks_row l.Moved k c line n = refl
looks_row l.Mark k c line n = refl
looks_row l.Board k c line n = refl
looks_row l.Chain k c line n = refl

-- ## Their turns

pub asks_does : (x : Asking) (s : State) (c : Command) (store memory line : List ℕ) (n : ℕ) {sessions : Sessions} {r : State} {before after : List ℕ} {e end : ℕ}
    → c ≡ command_of line
    → c.verb ≡ asked x
    → (r ≡ s) × (e ≡ end)
    → sessions ≡ agreed_in (console_of s store memory)
    → Behind before after 0 end (asked_line x c line sessions (list_in memory s.given))
    → Does s store memory line n r store memory before after e
asks_does x s c store memory line n p q h g b =
    let row = asks_row x (console_of s store memory) c line n in
    does (asked x) p q h b
    (ap (λ (y : Sessions). asked_line x c line y (list_in memory s.given)) g ∙ sym (ap (λ (t : Turned). t.answer) row))
    (sym (ap (λ (t : Turned). t.console) row))

pub changes_does : (x : Changing) (s : State) (c : Command) (store memory line : List ℕ) (n : ℕ) {sessions : Sessions} {r : State} {b : Board} {store' before after : List ℕ} {e end : ℕ}
    → c ≡ command_of line
    → c.verb ≡ changes x
    → (r ≡ with_board s b) × (e ≡ end)
    → sessions ≡ agreed_in (console_of s store memory)
    → b ≡ (changed_turn x s.board store c line sessions (list_in memory s.given)).board
    → store' ≡ (changed_turn x s.board store c line sessions (list_in memory s.given)).store
    → Behind before after 0 end (changed_turn x s.board store c line sessions (list_in memory s.given)).answer
    → Does s store memory line n r store' memory before after e
changes_does x s c store memory line n p q h g u v b =
    let row = changes_row x (console_of s store memory) c line n in
    let e = ap (λ (y : Sessions). changed_turn x s.board store c line y (list_in memory s.given)) g in
    does (changes x) p q h b
    (ap (λ (t : Boarding). t.answer) e ∙ sym (ap (λ (t : Turned). t.answer) row))
    (parts (u ∙ ap (λ (t : Boarding). t.board) e) (v ∙ ap (λ (t : Boarding). t.store) e) refl refl refl refl refl ∙ sym (ap (λ (t : Turned). t.console) row))

pub looks_does : (x : Looking) (s : State) (c : Command) (store memory line : List ℕ) (n : ℕ) {r : State} {before after : List ℕ} {e end : ℕ}
    → c ≡ command_of line
    → c.verb ≡ looked x
    → (r ≡ s) × (e ≡ end)
    → Behind before after 0 end (looked_line x s.board store c)
    → Does s store memory line n r store memory before after e
looks_does x s c store memory line n p q h b =
    let row = looks_row x (console_of s store memory) c line n in
    does (looked x) p q h b (sym (ap (λ (t : Turned). t.answer) row)) (sym (ap (λ (t : Turned). t.console) row))
