-- What the reading of lines, the laying out of answers and the turn of a line promise determines what they do: of any two answers that fit a
-- contract, equality, and of any two buffers, equality where the contract speaks of them.
use Prim.Native.Nat.{ℕ}
use mathlib.Core.Path.{◌≡◌, sym, ◌∙◌}
use mathlib.Core.Bool.{Bool}
use mathlib.Core.List.{List}
use lib.ListN.{take}
use Rattle.octets.specs.Octets.{over}
use Rattle.words.specs.Words.{word_of}
use Rattle.decimal.specs.Decimal.{decimal_value, structure_of}
use Rattle.hexadecimal.specs.Hexadecimal.{is_octets, octets_of}
use Rattle.printing.specs.Text.{Behind}
use Rattle.command.specs.Commands.{command_of}
use Rattle.command.specs.declared.Command.{Command}
use Rattle.console_state.specs.declared.state.State.{State}
use Rattle.console_state.specs.State.{console_of}
use Rattle.console_state.proofs.Laws.{pcc_back, pce_back}
use Rattle.console_dialogue.specs.Turns.{Does}

pub word_determined : (m : ℕ) (line : List ℕ) (i : ℕ) {a b : List ℕ} → a ≡ word_of line m i → b ≡ word_of line m i → a ≡ b
word_determined m line i p q = p ∙ sym q

pub value_determined : (w : List ℕ) {a b : ℕ} → a ≡ decimal_value w → b ≡ decimal_value w → a ≡ b
value_determined w p q = p ∙ sym q

pub structure_determined : (w : List ℕ) {a b : List ℕ} → a ≡ structure_of w → b ≡ structure_of w → a ≡ b
structure_determined w p q = p ∙ sym q

pub octets_form_determined : (w : List ℕ) {a b : Bool} → a ≡ is_octets w → b ≡ is_octets w → a ≡ b
octets_form_determined w p q = p ∙ sym q

pub decode_determined : (w out : List ℕ) {a b : List ℕ} → a ≡ over (octets_of w) out → b ≡ over (octets_of w) out → a ≡ b
decode_determined w out p q = p ∙ sym q

pub parse_determined : (line : List ℕ) {a b : Command} → a ≡ command_of line → b ≡ command_of line → a ≡ b
parse_determined line p q = p ∙ sym q

-- The end of a text, and the text up to it.
pub text_determined : {before x y more : List ℕ} {at e f : ℕ} → Behind before x at e more → Behind before y at f more → (e ≡ f) × (take e x ≡ take f y)
text_determined p q = (p.ends ∙ sym q.ends, p.text ∙ sym q.text)

-- How the console stands after a line, its OPENs as they were answered, and the text of its answer.
pub turn_determined : {s r q : State} {store memory line a b l m before x y : List ℕ} {n e f : ℕ}
    → Does s store memory line n r a l before x e
    → Does s store memory line n q b m before y f
    → (console_of r a l ≡ console_of q b m) × (r.pcc ≡ q.pcc) × (r.pce ≡ q.pce) × (e ≡ f) × (take e x ≡ take f y)
turn_determined {r = r} {q = q} {a = a} {b = b} {l = l} {m = m} p o =
    let k = p.console ∙ sym o.console in
    let t = text_determined p.told o.told in (k, pcc_back r q a b l m k, pce_back r q a b l m k, t.0, t.1)
