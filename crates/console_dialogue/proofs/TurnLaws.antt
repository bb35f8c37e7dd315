-- A turn, from what its command's call promises: one law for all rows of the table.
use Prim.Native.Nat.{ℕ}
use mathlib.Core.Path.{◌≡◌, refl, sym, ◌∙◌, ap, subst}
use mathlib.Core.List.{List, ◌++◌}
use lib.ListN.{length, take, drop}
use lib.Seq.{take_at, drop_at}
use Rattle.flag_positions.specs.declared.Positions.{Positions}
use Rattle.command_forms.specs.Forms.{most_size}
use Rattle.session.specs.Opened.{Opened}
use Rattle.board_record.specs.declared.record.Board.{Board}
use Rattle.writer_state.specs.declared.Writer.{Writer}
use Rattle.printing.specs.Text.{Behind}
use Rattle.command_forms.specs.declared.verb.Verb.{Verb}
use Rattle.command.specs.declared.Command.{Command}
use Rattle.command.specs.Commands.{command_of}
use Rattle.console_state.specs.declared.state.State.{State}
use Rattle.console_state.specs.State.{Console, writer_part, list_in, console_of, with_writer}
use Rattle.console_writer.specs.WriterLines.{Composing}
use Rattle.console_dialogue.specs.Turns.{Turned, composes, turn_by, turn_of, Does}

-- The turn of a line is that of its command.
turn_by_lem : (w : Verb) (k : Console) (c : Command) (line : List ℕ) (n : ℕ) → c ≡ command_of line → c.verb ≡ w → turn_by w k c line n ≡ turn_of k line n
unfolding turn_of
turn_by_lem w k c line n p q = rw (← p) (ap (λ (x : Verb). turn_by x k c line n) (sym q))

-- The line was read as a command of verb w; the arm ended in the state a with the answer's end; the answer x was laid there; and both are what
-- the row of w says.
pub does : (w : Verb) {s a r : State} {c : Command} {store memory line store' memory' before after x : List ℕ} {n e end : ℕ}
    → c ≡ command_of line
    → c.verb ≡ w
    → (r ≡ a) × (e ≡ end)
    → Behind before after 0 end x
    → x ≡ (turn_by w (console_of s store memory) c line n).answer
    → console_of a store' memory' ≡ (turn_by w (console_of s store memory) c line n).console
    → Does s store memory line n r store' memory' before after e
does w {s} {c = c} {store} {memory} {line} {store'} {memory'} {before} {after} {n = n} {end = end} p q (f, g) b t k =
    let u = turn_by_lem w (console_of s store memory) c line n p q in
    record {
      console = ap (λ (y : State). console_of y store' memory') f ∙ k ∙ ap (λ (y : Turned). y.console) u;
      told = rw g (subst (λ (y : List ℕ). Behind before after 0 end y) (t ∙ ap (λ (y : Turned). y.answer) u) b);
    }

-- ## What `refl` does not compute

-- The console part by part, after a command that changes it.
pub parts : {board b : Board} {store s : List ℕ} {pcc o pce p : Opened} {writer w : Writer} {lent l : List ℕ} {at : Positions} {addresses list : List ℕ}
    → board ≡ b
    → store ≡ s
    → pcc ≡ o
    → pce ≡ p
    → writer ≡ w
    → lent ≡ l
    → addresses ≡ list
    → ◌≡◌ {A = Console} (record { board = board; store = store; pcc = pcc; pce = pce; writer = writer; lent = lent; positions = at; addresses = addresses })
    (record { board = b; store = s; pcc = o; pce = p; writer = w; lent = l; positions = at; addresses = list })
parts {at = at} a b c d e f g = λ i. record { board = a i; store = b i; pcc = c i; pce = d i; writer = e i; lent = f i; positions = at; addresses = g i }

-- The writer's part of the memory after a command that wrote y into it, and the list of addresses behind, which stays.
writer_back : (size : ℕ) (m y : List ℕ) {x : List ℕ} → length y ≡ most_size → take size y ≡ x → writer_part (y ++ drop most_size m) size ≡ x
unfolding writer_part
writer_back size m y {x} = go most_size
  where
    go : (a : ℕ) → length y ≡ a → take size y ≡ x → take size (take a (y ++ drop a m)) ≡ x
    go a e f = ap (take size) (take_at y (drop a m) a e) ∙ f

list_back : (given : ℕ) (m y : List ℕ) → length y ≡ most_size → list_in (y ++ drop most_size m) given ≡ list_in m given
unfolding list_in
list_back given m y = go most_size
  where
    go : (a : ℕ) → length y ≡ a → take given (drop a (y ++ drop a m)) ≡ take given (drop a m)
    go a e = ap (take given) (drop_at y (drop a m) a e)

-- The writer's part, as its commands are lent it; it stays where the octets before the list stay.
pub part_is : (size : ℕ) (m : List ℕ) → take size (take most_size m) ≡ writer_part m size
unfolding writer_part
part_is size m = refl

pub part_stays : (size : ℕ) (m l : List ℕ) → take most_size l ≡ take most_size m → writer_part l size ≡ writer_part m size
unfolding writer_part
part_stays size m l e = ap (take size) e

-- A turn of the writer, from what its call promises of the writer's part of the memory, into which it wrote y.
pub composed_does : (turn : Writer → List ℕ → Composing) (w : Verb) (s : State) (c : Command) (store m y line : List ℕ) (n : ℕ) {r : State} {u : Writer} {size : ℕ}
    {before after : List ℕ} {e end : ℕ}
    → ((k : Console) → turn_by w k c line n ≡ composes k (turn k.writer k.lent))
    → c ≡ command_of line
    → c.verb ≡ w
    → (r ≡ with_writer s u size) × (e ≡ end)
    → length y ≡ most_size
    → u ≡ (turn s.writer (take s.size (take most_size m))).writer
    → take size y ≡ (turn s.writer (take s.size (take most_size m))).lent
    → Behind before after 0 end (turn s.writer (take s.size (take most_size m))).answer
    → Does s store m line n r store (y ++ drop most_size m) before after e
composed_does turn w s c store m y line n {size = size} {before} {after} {end = end} row p q h l f g b =
    let k = console_of s store m in
    let part = part_is s.size m in
    let told = subst (λ (x : List ℕ). Behind before after 0 end (turn s.writer x).answer) part b in
    does w p q h told (sym (ap (λ (t : Turned). t.answer) (row k)))
    (parts refl refl refl refl (f ∙ ap (λ (x : List ℕ). (turn s.writer x).writer) part)
    (writer_back size m y l (g ∙ ap (λ (x : List ℕ). (turn s.writer x).lent) part)) (list_back s.given m y l) ∙ sym (ap (λ (t : Turned). t.console) (row k)))
