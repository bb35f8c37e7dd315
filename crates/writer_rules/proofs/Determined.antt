-- Of any two answers that fit a contract, both are the same.
use Prim.Native.Nat.{ℕ, ◌+◌}
use mathlib.Core.Path.{◌≡◌, refl, sym, ap, ◌∙◌}
use mathlib.Core.Bool.{Bool, cond}
use Rattle.std.proofs.Common.{Result, Ok, Err}
use Rattle.std.specs.Prelude.{IfOk}
use Rattle.answers.specs.declared.reason.Reason.{Reason}
use Rattle.answers.proofs.Results.{numbered, number_apart}
use Rattle.forms.specs.declared.Form.{Form}
use Rattle.forms.specs.Forms.{nai_length}
use Rattle.subobject.specs.declared.head.Head.{Head}
use Rattle.subobject.specs.declared.segment.Segment.{Segment}
use Rattle.subobject.specs.Layout.{structure_size}
use Rattle.subobject.specs.Segments.{outline_of, head_of_outline}
use Rattle.writer_spare.specs.Lending.{lent_of}
use Rattle.writer_front.specs.Front.{front_of}
use Rattle.writer_layout.specs.declared.image.Piece.{Piece}
use Rattle.writer_rules.specs.Looked.{Looked}
use Rattle.writer_rules.specs.Refusals.{refused_number, add_number, finish_number}

-- A piece, its segment by what the lent octets say: where they lie no contract says.
pub record Said : Type 0 where
  pub segment : Segment
  pub head : Head
  pub front : ℕ
  pub nai : ℕ
  pub size : ℕ

abbrev pub said : Piece → Said
said p = record { segment = lent_of p.lent; head = p.head; front = p.front; nai = p.nai; size = p.size }

abbrev pub adding_said : Result Piece Reason → Result Said Reason
adding_said (Ok p) = Ok (said p)
adding_said (Err reason) = Err reason

-- what adding says of a piece
abbrev pub Fits : Form → Segment → Piece → Type 0
Fits form g p = (lent_of p.lent ≡ g) × Looked form (lent_of p.lent) p.head p.front p.nai p.size

abbrev said_of : Form → Segment → Said
said_of form g =
    record {
      segment = g;
      head = head_of_outline form (outline_of g);
      front = front_of form (outline_of g) g.sid;
      nai = nai_length form g.nt;
      size = front_of form (outline_of g) g.sid + nai_length form g.nt + cond g.structured structure_size 0;
    }

looked : (form : Form) (g : Segment) (h : Head) (x n y : ℕ) → Looked form g h x n y → ◌≡◌ {A = Said} (record { segment = g; head = h; front = x; nai = n; size = y }) (said_of form g)
looked form g h x n y l =
    let e = l.head in let f = l.front in let m = l.nai in
    let w : y ≡ front_of form (outline_of g) g.sid + nai_length form g.nt + cond g.structured structure_size 0 = rw (← f, ← m) l.whole in
    λ i. record { segment = g; head = e i; front = f i; nai = m i; size = w i }

said_is : (form : Form) (g : Segment) (p : Piece) → Fits form g p → said p ≡ said_of form g
said_is form g p k = looked form (lent_of p.lent) p.head p.front p.nai p.size k.1 ∙ ap (said_of form) k.0

pub adding_determined : (form : Form) (room : ℕ) (ero : Bool) (at : ℕ) (g : Segment) (a b : Result Piece Reason) → refused_number a ≡ add_number form g ero at room
    → IfOk a (Fits form g) → refused_number b ≡ add_number form g ero at room → IfOk b (Fits form g) → adding_said a ≡ adding_said b
adding_determined form room ero at g (Ok p) (Ok q) e h f k = let s = said_is form g p h ∙ sym (said_is form g q k) in λ i. Ok (s i)
adding_determined form room ero at g (Ok p) (Err r) e h f k = absurd (numbered r (f ∙ sym e))
adding_determined form room ero at g (Err r) (Ok q) e h f k = absurd (numbered r (e ∙ sym f))
adding_determined form room ero at g (Err r) (Err t) e h f k = let s = number_apart r t (e ∙ sym f) in λ i. Err (s i)

pub finishing_determined : (room at : ℕ) (a b : Result (Unit {0}) Reason) → refused_number a ≡ finish_number at room → refused_number b ≡ finish_number at room → a ≡ b
finishing_determined room at (Ok x) (Ok y) e f = refl
finishing_determined room at (Ok x) (Err t) e f = absurd (numbered t (f ∙ sym e))
finishing_determined room at (Err r) (Ok y) e f = absurd (numbered r (e ∙ sym f))
finishing_determined room at (Err r) (Err t) e f = let s = number_apart r t (e ∙ sym f) in λ i. Err (s i)
