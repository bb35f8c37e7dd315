-- What is left of a walk, as a loop's invariant says it, and the laws that a turn goes by. `Left` says that the walk over the TLVs from a
-- place on, with what was found before, gives the whole walk's answer; `left_end`, `left_broken`, `left_torn` and `left_next` are the ways
-- out of a turn, and the laws before them say what a turn adds.
use Rattle.std.specs.Prelude.{is_some, Option, None, Some}
use Prim.Native.Nat.{ℕ, suc, pred, ◌+◌, ◌-◌, ◌≤◌, ◌<◌}
use native.Mathlib.Omega.{arith}
use mathlib.Core.Path.{◌≡◌, refl, sym, ◌∙◌}
use mathlib.Core.List.{List}
use mathlib.Core.Bool.{Bool, true, false, cond, false≢true}
use lib.ListN.{length, drop}
use lib.Dec.{eqb}
use Rattle.octets.specs.Octets.{part}
use Rattle.octets.proofs.Laws.{length_part}
use Rattle.tlvs.specs.Tlvs.{Tlvs, tlvs_end, tlv, tlvs_in, tlvs_of, tlvs_whole, first_tlv}
use Rattle.tlvs.specs.Places.{item_at, value_at}
use Rattle.tlvs.specs.declared.Item.{Item}
use Rattle.tlvs.specs.declared.span.Span.{Span}
use Rattle.tlvs.proofs.Laws.{drop_part, items_end, items_turn}
use Rattle.answers.proofs.Determined.{determined}
use Rattle.setup_types.specs.SetupTypes.{path_setup, list_size, holds_list, subs_of}
use Rattle.open_walk.specs.Walk.{Sight, torn, seen, inside_of, open_onward, open_walk}

-- one turn -----------------------------------------------------------------------------------------------------

same_either : {A : Type 0} (b : Bool) (x : A) → cond b x x ≡ x
same_either true x = refl
same_either false x = refl

pub onward_end : (inner : Bool) (want : ℕ) (list sub : Option (List ℕ)) → open_onward list sub tlvs_end inner want ≡ seen list sub
onward_end true want list None = refl
onward_end true want list (Some w) = refl
onward_end false want None sub = refl
onward_end false want (Some v) sub = refl

-- A span is none exactly if no value lies there.
pub value_none : (s : List ℕ) (p : Option Span) → is_some p ≡ false → value_at s p ≡ None
value_none s None e = refl
value_none s (Some p) e = absurd (false≢true (sym e))

module _ (want kind : ℕ) (v : List ℕ) (rest : Tlvs) where
  -- among sub-TLVs, the first wanted one is kept,
  pub onward_hit : (list sub : Option (List ℕ)) → sub ≡ None → eqb kind want ≡ true → open_onward list sub (tlv kind v rest) true want ≡ open_onward list (Some v) rest true want
  onward_hit list sub n e = rw (n, e)

  -- and the others are passed over
  pub onward_miss : (list sub : Option (List ℕ)) → eqb kind want ≡ false → open_onward list sub (tlv kind v rest) true want ≡ open_onward list sub rest true want
  onward_miss list sub e = rw e

  pub onward_kept : (s : List ℕ) (list : Option (List ℕ)) (sub : Option Span) → is_some sub ≡ true
      → open_onward list (value_at s sub) (tlv kind v rest) true want ≡ open_onward list (value_at s sub) rest true want
  onward_kept s list None e = absurd (false≢true e)
  onward_kept s list (Some p) e = refl

  -- an outer TLV that is not the first TLV 34 is passed over
  pub onward_other : (list sub : Option (List ℕ)) → eqb kind path_setup ≡ false → open_onward list sub (tlv kind v rest) false want ≡ open_onward list sub rest false want
  onward_other None sub e = rw e
  onward_other (Some w) sub e = refl

  pub onward_later : (s : List ℕ) (list : Option Span) (sub : Option (List ℕ)) → is_some list ≡ true
      → open_onward (value_at s list) sub (tlv kind v rest) false want ≡ open_onward (value_at s list) sub rest false want
  onward_later s None sub e = absurd (false≢true e)
  onward_later s (Some p) sub e = refl

  -- and the first TLV 34 is looked into
  pub onward_enter : (list sub : Option (List ℕ)) → list ≡ None → eqb kind path_setup ≡ true
      → open_onward list sub (tlv kind v rest) false want ≡ cond (tlvs_whole rest) (inside_of sub (Some v) want) torn
  onward_enter list sub n e = rw (n, e)

-- the first TLV 34 ---------------------------------------------------------------------------------------------

abbrev pub entered : List ℕ → Sight → Sight
entered v torn = torn
entered v (seen list sub) = seen (Some v) sub

pub inside_unheld : (want : ℕ) (sub : Option (List ℕ)) (v : List ℕ) (b : Bool) → holds_list v ≡ false → cond b (inside_of sub (Some v) want) torn ≡ torn
inside_unheld want sub v b e = rw e (same_either b torn)

pub inside_walked : (want : ℕ) (sub : Option (List ℕ)) (v : List ℕ) → holds_list v ≡ true
    → inside_of sub (Some v) want ≡ entered v (open_walk (drop (list_size v) v) true want)
unfolding open_walk
inside_walked want sub v e = rw e (go (tlvs_whole (subs_of v)) refl)
  where
    go : (b : Bool) → tlvs_whole (subs_of v) ≡ b
        → cond (tlvs_whole (subs_of v)) (seen (Some v) (first_tlv (subs_of v) want)) torn ≡ entered v (open_onward None None (subs_of v) true want)
    go true f = rw f
    go false f = rw f

pub inside_torn : (want : ℕ) (sub : Option (List ℕ)) (v : List ℕ) (b : Bool) → holds_list v ≡ true → torn ≡ open_walk (drop (list_size v) v) true want
    → cond b (inside_of sub (Some v) want) torn ≡ torn
inside_torn want sub v b e w = rw (inside_walked want sub v e, ← w) (same_either b torn)

pub inside_seen : (want : ℕ) (sub : Option (List ℕ)) (v : List ℕ) (b : Bool) {outer inside : Option (List ℕ)} → holds_list v ≡ true
    → seen outer inside ≡ open_walk (drop (list_size v) v) true want → cond b (inside_of sub (Some v) want) torn ≡ cond b (seen (Some v) inside) torn
inside_seen want sub v b e w = rw (inside_walked want sub v e, ← w)

pub onward_found : (inner : Bool) (want : ℕ) (v : List ℕ) (sub : Option (List ℕ)) (rest : Tlvs) → inner ≡ false
    → cond (tlvs_whole rest) (seen (Some v) sub) torn ≡ open_onward (Some v) sub rest inner want
onward_found inner want v sub rest e = rw e

-- Where the sub-TLVs lie in the whole.
subs_part : (s : List ℕ) (from len size : ℕ) → size ≡ list_size (part s from len) → size ≤ len → from + len ≤ length s
    → part s (from + size) (from + len - (from + size)) ≡ drop (list_size (part s from len)) (part s from len)
subs_part s from len size e h k =
    let m : from + len - (from + size) ≡ len - size = omega arith in
    rw (m, ← e) (sym (drop_part s from len size k))

pub inside_found : (s : List ℕ) (want from len size : ℕ) {found : Sight} → size ≡ list_size (part s from len) → size ≤ len → from + len ≤ length s
    → found ≡ open_walk (part s (from + size) (from + len - (from + size))) true want
    → found ≡ open_walk (drop (list_size (part s from len)) (part s from len)) true want
inside_found s want from len size e h k w = rw (subs_part s from len size e h k) at w

-- the walk -----------------------------------------------------------------------------------------------------

-- The walk from `at` on, with `list` and `sub` found before, gives `whole`.
pub record Left (inner : Bool) (want : ℕ) (s : List ℕ) (at stop : ℕ) (list sub : Option (List ℕ)) (whole : Sight) : Type 0 where
  pub fuel : ℕ
  pub enough : stop - at < fuel
  pub same : open_onward list sub (tlvs_in (part s at (stop - at)) inner fuel) inner want ≡ whole

pub left_start : (inner : Bool) (want : ℕ) (s : List ℕ) (at stop : ℕ) → at ≤ stop → stop ≤ length s
    → Left inner want s at stop None None (open_walk (part s at (stop - at)) inner want)
unfolding open_walk tlvs_of
left_start inner want s at stop h k = record {
  fuel = suc (length (part s at (stop - at)));
  enough = omega (arith, length_part s at (stop - at) (omega arith));
  same = refl;
}

module _ {inner : Bool} {want : ℕ} {s : List ℕ} {at stop : ℕ} {list sub : Option (List ℕ)} {whole : Sight} (l : Left inner want s at stop list sub whole) where
  pub left_end : stop ≤ at → seen list sub ≡ whole
  left_end e = sym (rw (items_end l.fuel inner s at stop (omega arith) e) (onward_end inner want list sub)) ∙ l.same

  module _ (h : at < stop) (k : stop ≤ length s) where
    pub left_broken : item_at s inner at stop ≡ None → torn ≡ whole
    left_broken e = sym (rw (items_turn l.fuel inner s at stop (omega arith) h k, e)) ∙ l.same

    pub left_torn : {i : Item} → item_at s inner at stop ≡ Some i
        → ((rest : Tlvs) → open_onward list sub (tlv i.kind (part s i.value.from i.value.len) rest) inner want ≡ torn) → torn ≡ whole
    left_torn {i} e f =
        sym (rw (items_turn l.fuel inner s at stop (omega arith) h k, e) (f (tlvs_in (part s i.next (stop - i.next)) inner (pred l.fuel)))) ∙ l.same

    pub left_next : {i : Item} {list' sub' : Option (List ℕ)} → item_at s inner at stop ≡ Some i → at < i.next
        → ((rest : Tlvs) → open_onward list sub (tlv i.kind (part s i.value.from i.value.len) rest) inner want ≡ open_onward list' sub' rest inner want)
        → Left inner want s i.next stop list' sub' whole
    left_next {i} e g f = record {
      fuel = pred l.fuel;
      enough = omega arith;
      same = sym (rw (items_turn l.fuel inner s at stop (omega arith) h k, e) (f (tlvs_in (part s i.next (stop - i.next)) inner (pred l.fuel)))) ∙ l.same;
    }

-- Any two walks that fit the contract of `walk` found the same values.
pub walk_determined : (inner : Bool) (want : ℕ) (s : List ℕ) {x y : Sight} → x ≡ open_walk s inner want → y ≡ open_walk s inner want → x ≡ y
walk_determined inner want s = determined
