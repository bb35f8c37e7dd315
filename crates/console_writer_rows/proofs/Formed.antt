-- What the form of a command says of its words.
use Prim.Native.Nat.{ℕ, suc, ◌≤◌}
use mathlib.Core.Path.{◌≡◌, refl, sym, ◌∙◌, ap}
use mathlib.Core.Bool.{Bool, true, false, cond}
use mathlib.Core.List.{List, [], ◌∷◌}
use lib.Dec.{eqb, ltb}
use lib.ListN.{length}
use native.Mathlib.Omega.{arith}
use borrow.Author.Tests.{leb-true}
use Rattle.octets.proofs.Said.{both_true}
use Rattle.words.specs.Words.{space, word_of, words_in}
use Rattle.decimal.specs.Decimal.{most_octet, most_two_octets, is_at_most, is_number, decimal_value}
use Rattle.hexadecimal.specs.Hexadecimal.{octets_of, is_octets, is_sid, is_nai}
use Rattle.command_forms.specs.declared.verb.Verb.{Verb}
use Rattle.command_forms.specs.declared.verb.Verb.TheVariants as v
use Rattle.command_forms.specs.declared.kind.Kind.{Kind}
use Rattle.command_forms.specs.declared.kind.Kind.TheVariants.{Number, Bit, Octet, TwoOctets, Size, Side, Sid, Nai, Structure}
use Rattle.command_forms.specs.Forms.{most_size, verb_of, fits, kinds_of, formed, fit_from}
use Rattle.command.specs.declared.Command.{Command}
use Rattle.command.specs.Commands.{skipped, longest_line, bare_command, commanded, command_of}
use Rattle.console_add.specs.Added.{AddForm}

-- ## Words

at_most : (most : ℕ) (w : List ℕ) → is_at_most w most ≡ true → decimal_value w ≤ most
unfolding is_at_most
at_most most w e = leb-true (decimal_value w) most (both_true (is_number w) _ e).1

sid_short : (w : List ℕ) → is_sid w ≡ true → length (octets_of w) ≤ 16
unfolding is_sid
sid_short w e = leb-true (length (octets_of w)) 16 (both_true (is_octets w) _ e).1

nai_short : (w : List ℕ) → is_nai w ≡ true → length (octets_of w) ≤ 40
unfolding is_nai
nai_short w e = leb-true (length (octets_of w)) 40 (both_true (is_octets w) _ e).1

-- ## Commands

-- A command that is neither skipped nor bad is in form.
pub record Formed (c x : Command) (f : Bool) : Type 0 where
  pub same : c ≡ x
  pub form : f ≡ true

chosen : (s l f : Bool) (x : Command) (w : Verb) → (v.Skip ≡ w → ⊥) → (v.Bad ≡ w → ⊥)
    → (cond s (bare_command v.Skip) (cond l (bare_command v.Bad) (cond f x (bare_command v.Bad)))).verb ≡ w
    → Formed (cond s (bare_command v.Skip) (cond l (bare_command v.Bad) (cond f x (bare_command v.Bad)))) x f
chosen true l f x w p q e = absurd (p e)
chosen false true f x w p q e = absurd (q e)
chosen false false true x w p q e = record { same = refl; form = refl }
chosen false false false x w p q e = absurd (q e)

pub in_form : (line : List ℕ) (w : Verb) → (v.Skip ≡ w → ⊥) → (v.Bad ≡ w → ⊥) → (command_of line).verb ≡ w
    → Formed (command_of line) (commanded line) (formed (kinds_of w) line)
unfolding command_of
in_form line w p q e =
    let f = chosen (skipped line) (ltb longest_line (length line)) (formed (kinds_of (verb_of (word_of line space 0))) line) (commanded line) w p q e in
    let g : verb_of (word_of line space 0) ≡ w = sym (ap (λ (c : Command). c.verb) f.same) ∙ e in
    record { same = f.same; form = rw g at f.form }

fit_words : (ks : List Kind) (line : List ℕ) → formed ks line ≡ true → fit_from ks line 1 ≡ true
unfolding formed
fit_words ks line e = (both_true (eqb (words_in line space) (suc (length ks))) (fit_from ks line 1) e).1

fit_word : (k : Kind) (ks : List Kind) (line : List ℕ) (i : ℕ) → fit_from (k ∷ ks) line i ≡ true → (fits (word_of line space i) k ≡ true) × (fit_from ks line (suc i) ≡ true)
fit_word k ks line i e = both_true (fits (word_of line space i) k) (fit_from ks line (suc i)) e

begin_at : (line : List ℕ) → formed (kinds_of v.Begin) line ≡ true → decimal_value (word_of line space 3) ≤ most_size
begin_at line e =
    let a = fit_word Side (Number ∷ Size ∷ []) line 1 (fit_words (kinds_of v.Begin) line e) in
    let b = fit_word Number (Size ∷ []) line 2 a.1 in
    at_most most_size (word_of line space 3) (fit_word Size [] line 3 b.1).0

-- "SIZE octets (0 to 65,536)"
pub begin_size : (line : List ℕ) {c : Command} → c ≡ command_of line → c.verb ≡ v.Begin → c.three ≤ most_size
begin_size line {c} p q =
    let f = in_form line v.Begin (λ e. let z : ◌≡◌ {A = ℕ} 0 1 = cc in omega arith) (λ e. let z : ◌≡◌ {A = ℕ} 0 1 = cc in omega arith) (rw p at q) in
    rw (p, f.same) (begin_at line f.form)

add_at : (line : List ℕ) → formed (kinds_of v.Add) line ≡ true → AddForm (commanded line) line
add_at line e =
    let l = fit_word Bit (Bit ∷ Octet ∷ TwoOctets ∷ Sid ∷ Nai ∷ Structure ∷ Bit ∷ Bit ∷ []) line 1 (fit_words (kinds_of v.Add) line e) in
    let m = fit_word Bit (Octet ∷ TwoOctets ∷ Sid ∷ Nai ∷ Structure ∷ Bit ∷ Bit ∷ []) line 2 l.1 in
    let t = fit_word Octet (TwoOctets ∷ Sid ∷ Nai ∷ Structure ∷ Bit ∷ Bit ∷ []) line 3 m.1 in
    let b = fit_word TwoOctets (Sid ∷ Nai ∷ Structure ∷ Bit ∷ Bit ∷ []) line 4 t.1 in
    let s = fit_word Sid (Nai ∷ Structure ∷ Bit ∷ Bit ∷ []) line 5 b.1 in
    let n = fit_word Nai (Structure ∷ Bit ∷ Bit ∷ []) line 6 s.1 in
    record { nt = at_most most_octet _ t.0; behaviour = at_most most_two_octets _ b.0; sid = sid_short _ s.0; nai = nai_short _ n.0 }

-- "NT 0 to 255, BEHAVIOUR 0 to 65,535, SID 1 to 16 octets .. or `-`, NAI 0 to 40 octets"
pub add_form : (line : List ℕ) {c : Command} → c ≡ command_of line → c.verb ≡ v.Add → AddForm c line
add_form line {c} p q =
    let f = in_form line v.Add (λ e. let z : ◌≡◌ {A = ℕ} 0 1 = cc in omega arith) (λ e. let z : ◌≡◌ {A = ℕ} 0 1 = cc in omega arith) (rw p at q) in
    rw (p, f.same) (add_at line f.form)
