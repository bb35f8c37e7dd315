-- What is left of the walk over subobjects and their checks. The walk knows no rule: `broken place number` is handed in, and at its start it is the
-- table's. `Left` says what the subobjects from a place on answer, `Checking` what is left inside one; a law for each way out of a turn.
-- Assumes nothing.
use Prim.Native.Nat.{ℕ, ◌+◌, ◌-◌, ◌%◌, ◌≤◌, ◌<◌}
use mathlib.Core.Path.{◌≡◌, refl, sym, ◌∙◌, ap}
use mathlib.Core.List.{List, [], ◌∷◌, ◌++◌}
use Rattle.std.proofs.lemmas.List.{get_or-map}
use mathlib.Core.Bool.{Bool, true, false}
use lib.ListN.{length, get_or, drop}
use lib.Seq.{drop-cons}
use lib.Dec.{eqb}
use native.Mathlib.Omega.{arith}
use borrow.Author.Tests.{eqb-true, eqb-false}
use native.Mathlib.Nat.{zero-add}
use native.Mathlib.Numerals.{add-one}
use Rattle.answers.specs.declared.verdict.Verdict.{Verdict}
use Rattle.answers.specs.Verdicts.{refused_by, carrying_both}
use Rattle.answers.specs.Reasons.{number_of}
use Rattle.answers.specs.declared.reason.Reason.{Reason}
use Rattle.answers.specs.declared.reason.Reason.TheVariants.{NaiUnknown, NothingThere, LengthWrong, SidNeeded, StructureTooLong, LabelValue, LabelFormat}
use Rattle.octets.specs.Octets.{octet_of}
use Rattle.objects.specs.Objects.{header}
use Rattle.forms.specs.declared.Form.{Form}
use Rattle.subobject.specs.declared.head.Head.{Head}
use Rattle.subobject.specs.Layout.{head_of, head_at, expected_length}
use Rattle.subobject.specs.Rules.{subject_by, subject_at, RuleRow, rules, rule_count, broken_by, place_by}
use Rattle.subobject_strays.specs.Strays.{strays_by, strays_at, stray_one, stray_in}
use Rattle.subobject.proofs.Laws.{sound_length}
use Rattle.frame.specs.Checks.{Check, check, first_broken}
use Rattle.frame.specs.Frames.{apart_of, places_of}
use Rattle.frame.proofs.Laws.{Over, over_starts, over_ends, over_as, sound_starts, sound_room, sound_next, next_by}
use Rattle.route_walk.specs.Walk.{checks_at, subobject_checks, walk_of}

-- The checks as the code asks for them: the numbers in their order, each by its number.
abbrev pub numbers_of : List RuleRow → List ℕ
numbers_of [] = []
numbers_of (r ∷ rs) = r.number ∷ numbers_of rs

abbrev pub order : List ℕ
order = numbers_of rules

abbrev pub asked_at : (ℕ → Bool) → ℕ → List ℕ → List Check
asked_at broken place [] = []
asked_at broken place (r ∷ rs) = check r (place_by place r) (broken r) ∷ asked_at broken place rs

abbrev pub asked_all : (ℕ → ℕ → Bool) → List ℕ → List Check
asked_all broken [] = []
asked_all broken (p ∷ ps) = asked_at (broken p) p order ++ asked_all broken ps

-- They are the rows of the table.
pub rows_asked : (form : Form) (s : List ℕ) (ero n : Bool) (p : ℕ) → asked_at (broken_by (subject_at form s ero n p)) p order ≡ checks_at form s ero n p
unfolding broken_by place_by
rows_asked form s ero n p = refl

pub all_asked : (form : Form) (s : List ℕ) (ero n : Bool) (ps : List ℕ) → asked_all (λ p. broken_by (subject_at form s ero n p)) ps ≡ subobject_checks form s ero n ps
unfolding broken_by place_by
all_asked form s ero n [] = refl
all_asked form s ero n (p ∷ ps) = ap (λ (cs : List Check). checks_at form s ero n p ++ cs) (all_asked form s ero n ps)

-- "8, 9, 7, 10, 11", then 29 and 30.
pub in_order_lem : order ≡ 8 ∷ 9 ∷ 7 ∷ 10 ∷ 11 ∷ 29 ∷ 30 ∷ []
in_order_lem = refl

pub row_count : length rules ≡ rule_count
row_count = refl

-- The subobjects from `at` on, and then what `after` makes of their places, answer `whole`.
pub record Left (broken : ℕ → ℕ → Bool) (s : List ℕ) (at : ℕ) (after : List ℕ → Verdict) (whole : Verdict) : Type 0 where
  pub good : Over (λ a. a.whole) s at true
  pub rest : Over (λ a. first_broken (asked_all broken a.places) (after a.places)) s at whole

-- The checks of the subobject at `at` before the k-th are not broken; those from it on, then the subobjects from `next` on, and then `after`,
-- answer `whole`.
pub record Checking (broken : ℕ → ℕ → Bool) (s : List ℕ) (at next : ℕ) (after : List ℕ → Verdict) (whole : Verdict) (k : ℕ) : Type 0 where
  pub good : Over (λ a. a.whole) s next true
  pub past : (j : ℕ) → j < k → broken at (get_or order j 0) ≡ false
  pub rest : Over (λ a. first_broken (asked_at (broken at) at (drop k order) ++ asked_all broken a.places) (after (at ∷ a.places))) s next whole

-- What the walk answers in the end, with `stray` counted: of the places that are left the stray ones too.
abbrev pub ending : Form → List ℕ → Bool → ℕ → ℕ → List ℕ → Verdict
ending form s ero count stray ps = carrying_both count (stray + stray_in form s ero ps)

pub left_as : {broken : ℕ → ℕ → Bool} {s : List ℕ} {at : ℕ} {after : List ℕ → Verdict} {whole : Verdict} → Left broken s at after whole
    → (then : List ℕ → Verdict) → ((ps : List ℕ) → after ps ≡ then ps) → Left broken s at then whole
left_as {broken} l then e = record {
  good = l.good;
  rest =
      over_as l.rest (λ a. first_broken (asked_all broken a.places) (then a.places))
      (λ a. ap (λ (v : Verdict). first_broken (asked_all broken a.places) v) (e a.places));
}

pub walk_starts : (form : Form) (s : List ℕ) (ero n : Bool) (count : ℕ) → (apart_of s).whole ≡ true
    → Left (λ p. broken_by (subject_at form s ero n p)) s header (ending form s ero count 0) (walk_of form s ero n count)
unfolding walk_of
walk_starts form s ero n count e =
    let broken : ℕ → ℕ → Bool = λ p. broken_by (subject_at form s ero n p) in
    let after : List ℕ → Verdict = λ ps. carrying_both count (stray_in form s ero ps) in
    rw (← all_asked form s ero n (places_of s))
    (left_as {after = after} (record { good = sound_starts s e; rest = over_starts (λ a. first_broken (asked_all broken a.places) (after a.places)) s })
    (ending form s ero count 0) (λ ps. ap (λ (x : ℕ). carrying_both count x) (sym (zero-add (stray_in form s ero ps)))))

pub stray_ends : {count stray : ℕ} {whole : Verdict} → carrying_both count (stray + 0) ≡ whole → carrying_both count stray ≡ whole
stray_ends {count} {stray} e = ap (λ (x : ℕ). carrying_both count x) (omega arith) ∙ e

module _ {broken : ℕ → ℕ → Bool} {s : List ℕ} {at : ℕ} {after : List ℕ → Verdict} {whole : Verdict} (l : Left broken s at after whole) where
  pub left_ends : at ≡ length s → after [] ≡ whole
  left_ends e = over_ends l.rest e

  pub left_room : (at ≡ length s → ⊥) → (4 ≤ get_or s (at + 1) 0) × (get_or s (at + 1) 0 % 4 ≡ 0) × (get_or s (at + 1) 0 ≤ length s - at)
  left_room n = sound_room l.good n

  pub begin : {len : ℕ} → at < length s → len ≡ get_or s (at + 1) 0 → Checking broken s at (at + len) after whole 0
  begin n e = record { good = sound_next l.good n e; past = λ j h. absurd (omega arith); rest = next_by l.good l.rest n e }

module _ {broken : ℕ → ℕ → Bool} {s : List ℕ} {at next : ℕ} {after : List ℕ → Verdict} {whole : Verdict} {k : ℕ} (l : Checking broken s at next after whole k) where
  pub stops : k < rule_count → broken at (get_or order k 0) ≡ true → refused_by (get_or order k 0) (place_by at (get_or order k 0)) ≡ whole
  stops h e = (over_as l.rest (λ a. refused_by (get_or order k 0) (place_by at (get_or order k 0))) (λ a. rw (drop-cons order k (0) h, e))).same

  pub passes : k < rule_count → broken at (get_or order k 0) ≡ false → Checking broken s at next after whole (k + 1)
  passes h e = record {
    good = l.good;
    past = λ j q. go j q (eqb j k) refl;
    rest =
        over_as l.rest (λ a. first_broken (asked_at (broken at) at (drop (k + 1) order) ++ asked_all broken a.places) (after (at ∷ a.places)))
        (λ a. rw (add-one k, drop-cons order k 0 h, e));
  }
    where
      go : (j : ℕ) → j < k + 1 → (b : Bool) → eqb j k ≡ b → broken at (get_or order j 0) ≡ false
      go j q true z = rw (eqb-true j k z) e
      go j q false z = let d = eqb-false j k z in l.past j (omega arith)

  pub done : k ≡ rule_count → Left broken s next (λ ps. after (at ∷ ps)) whole
  done e = record { good = l.good; rest = over_as l.rest (λ a. first_broken (asked_all broken a.places) (after (at ∷ a.places))) (λ a. rw e) }

module _ (form : Form) (ero n : Bool) (count stray : ℕ) {s : List ℕ} {at next : ℕ} {whole : Verdict} {k : ℕ}
    (l : Checking (λ p. broken_by (subject_at form s ero n p)) s at next (ending form s ero count stray) whole k) where
  -- A subobject that breaks no rule is of the expected length,
  pub checked_length : (h : Head) → h ≡ head_at form s ero at → k ≡ rule_count → h.size ≡ expected_length form h.nt h.s h.t
  unfolding broken_by
  checked_length h e z = rw e (sound_length form (head_at form s ero at) (l.past 2 (omega arith)))

  -- and is counted if it is stray.
  pub counted : (h : Head) (one : ℕ) → h ≡ head_at form s ero at → one ≡ stray_one (strays_by form h s at) → k ≡ rule_count
      → Left (λ p. broken_by (subject_at form s ero n p)) s next (ending form s ero count (stray + one)) whole
  unfolding strays_at
  counted h one e eo z =
      let q : one ≡ stray_one (strays_at form s ero at) = rw e at eo in
      left_as (done l z) (ending form s ero count (stray + one)) (λ ps. ap (λ (y : ℕ). carrying_both count y) (omega (arith, q)))

-- The head that was read, and what is asked of it.
pub head_size : (form : Form) (ero : Bool) (s : List ℕ) (at : ℕ) (h : Head) → h ≡ head_at form s ero at → h.size ≡ get_or s (at + 1) 0
unfolding head_at head_of octet_of
head_size form ero s at h e = ap (λ (x : Head). x.size) e

pub asked : (form : Form) (ero n : Bool) (s : List ℕ) (at number k : ℕ) (h : Head) (b : Bool) → h ≡ head_at form s ero at → number ≡ get_or order k 0
    → b ≡ broken_by (subject_by form h s ero n at) number → broken_by (subject_at form s ero n at) (get_or order k 0) ≡ b
asked form ero n s at number k h b e z q = rw (← e, ← z) (sym q)

-- The reasons in the order of the code, and their numbers.
abbrev pub reasons : List Reason
reasons = NaiUnknown ∷ NothingThere ∷ LengthWrong ∷ SidNeeded ∷ StructureTooLong ∷ LabelValue ∷ LabelFormat ∷ []

pub reason_of : (d : Reason) (k : ℕ) → k < rule_count → number_of (get_or reasons k d) ≡ get_or order k 0
reason_of d k h = sym (get_or-map number_of reasons k d 0 h)

-- A refusal with the place that its number names.
pub refused_at : (at m n number place : ℕ) → n ≡ m → number ≡ n → place ≡ place_by at number → refused_by n place ≡ refused_by m (place_by at m)
refused_at at m n number place e f p = rw (p, f, e)
