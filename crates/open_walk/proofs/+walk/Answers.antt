-- `stepped` and `stopped` say how a turn goes on or ends by the item read; `entered` to `walked` follow the first TLV 34 inside.
use Rattle.std.specs.Prelude.{Option, Some}
use Rattle.open_walk.proofs.Laws
use Rattle.open_walk.specs.Walk.{Sight, torn, Listed, inside_of, open_onward, open_walk}
use Rattle.tlvs.specs.declared.span.Span.{Span}
use Rattle.setup_types.specs.SetupTypes.{list_size, holds_list}
use Rattle.tlvs.specs.Places.{value_at, Inside}
use Rattle.tlvs.specs.Tlvs.{Tlvs, tlv, tlvs_whole}
use Rattle.octets.proofs.Laws.{length_part}
use Rattle.octets.specs.Octets.{part}
use lib.ListN.{length, drop}
use borrow.Author.Tests.{eq-eqb, ne_eqb, le-leb, lt-leb}
use native.Mathlib.Omega.{arith}
use mathlib.Core.Bool.{true, false, cond}
use mathlib.Core.Path.{◌≡◌, sym, ◌∙◌}
use Prim.Native.Nat.{ℕ, ◌+◌, ◌-◌, ◌≤◌}
use Rattle.open_walk.proofs.+walk.Goals as goal
use Rattle.open_walk.proofs.+walk.Goals.{In-Some, After-list_size-size}

-- the walk is at the item read, with `rest` behind it
abbrev Here : (t : ℕ) → In-Some t → Tlvs → Sight
Here t c rest =
    let a = c.args in
    let i = c.in-Some.field-0 in
    open_onward (value_at a.s.now c.loop-at.list) (value_at a.s.now c.loop-at.sub) (tlv i.kind (part a.s.now i.value.from i.value.len) rest) a.inner a.want

-- the invariant after the item
stepped : (t : ℕ) (c : In-Some t) (list sub : Option Span)
    → (let a = c.args in
    let i = c.in-Some.field-0 in
    Listed a.s.now list → Inside sub (length a.s.now)
    → ((rest : Tlvs) → Here t c rest ≡ open_onward (value_at a.s.now list) (value_at a.s.now sub) rest a.inner a.want)
    → (a.start ≤ i.next) × Listed a.s.now list × Inside sub (length a.s.now)
    × Laws.Left a.inner a.want a.s.now i.next a.end (value_at a.s.now list) (value_at a.s.now sub) (open_walk (part a.s.now a.start (a.end - a.start)) a.inner a.want))
stepped t c list sub i j e =
    let l = c.loop-at in
    let b = c.in-Some.ensures.within in
    (omega arith, i, j, Laws.left_next l.invariant.3 c.loop-at-test.true (omega arith) (sym c.in-Some.ensures.exact) (omega arith) e)

stopped : (t : ℕ) (c : In-Some t)
    → (let a = c.args in
    ((rest : Tlvs) → Here t c rest ≡ torn) → torn ≡ open_walk (part a.s.now a.start (a.end - a.start)) a.inner a.want)
stopped t c e = Laws.left_torn c.loop-at.invariant.3 c.loop-at-test.true (omega arith) (sym c.in-Some.ensures.exact) e

-- where the first TLV 34 has been read
entered : (t : ℕ) (c : After-list_size-size t) (rest : Tlvs)
    → (let a = c.args in
    let i = c.in-Some.field-0 in
    let v = part a.s.now i.value.from i.value.len in
    open_onward (value_at a.s.now c.loop-at.list) (value_at a.s.now c.loop-at.sub) (tlv i.kind v rest) a.inner a.want
    ≡ cond (tlvs_whole rest) (inside_of (value_at a.s.now c.loop-at.sub) (Some v) a.want) torn)
entered t c rest =
    let a = c.args in
    let l = c.loop-at in
    let i = c.in-Some.field-0 in
    rw c.if-inner.false
    (Laws.onward_enter a.want i.kind (part a.s.now i.value.from i.value.len) rest (value_at a.s.now l.list) (value_at a.s.now l.sub)
    (rw c.in-None-list.is)
    (eq-eqb _ _ c.if-kind-eq-PATH_SETUP.true))

-- where its list has been measured
size_same : (t : ℕ) (c : After-list_size-size t) → (let v = c.in-Some.field-0.value in c.list_size-size.result ≡ list_size (part c.args.s.now v.from v.len))
size_same t c = rw c.of.ensures.value at c.list_size-size.ensures.size.0

value_long : (t : ℕ) (c : After-list_size-size t) → (let v = c.in-Some.field-0.value in length (part c.args.s.now v.from v.len) ≡ v.len)
value_long t c = let b = c.in-Some.ensures.within in let v = c.in-Some.field-0.value in length_part c.args.s.now v.from v.len (omega arith)

-- where it holds its list
held : (t : ℕ) (c : After-list_size-size t)
    → (let v = c.in-Some.field-0.value in c.list_size-size.result ≤ v.len → holds_list (part c.args.s.now v.from v.len) ≡ true)
held t c h =
    let v = part c.args.s.now c.in-Some.field-0.value.from c.in-Some.field-0.value.len in
    le-leb (list_size v) (length v) (omega (arith, size_same t c, value_long t c, h))

-- where the list inside it has been walked
walked : (t : ℕ) (c : After-list_size-size t) {found : Sight}
    → (let i = c.in-Some.field-0.value in
    let v = part c.args.s.now i.from i.len in
    let n = c.list_size-size.result in
    n ≤ i.len → found ≡ open_walk (part c.args.s.now (i.from + n) (i.from + i.len - (i.from + n))) true c.args.want
    → found ≡ open_walk (drop (list_size v) v) true c.args.want)
walked t c h w =
    let i = c.in-Some.field-0.value in
    let b = c.in-Some.ensures.within in
    Laws.inside_found c.args.s.now c.args.want i.from i.len c.list_size-size.result (size_same t c) h (omega arith) w

pub loop-at-init : goal.loop-at-init
loop-at-init t c =
    let a = c.args in
    (omega arith, tt, tt, Laws.left_start a.inner a.want a.s.now a.start a.end (omega arith) (omega arith))

pub returns-in_default-clause-found : goal.returns-in_default-clause-found
returns-in_default-clause-found t c = Laws.left_broken c.loop-at.invariant.3 c.loop-at-test.true (omega arith) (sym c.in_default.ensures.exact)

pub returns-then-value-size-clause-found : goal.returns-then-value-size-clause-found
returns-then-value-size-clause-found t c =
    let at = goal.at.returns-then-value-size-clause-found t c in
    let v = part c.args.s.now c.in-Some.field-0.value.from c.in-Some.field-0.value.len in
    let e : holds_list v ≡ false = lt-leb (list_size v) (length v)
    (omega (arith, size_same t at.After-list_size-size, value_long t at.After-list_size-size, c.if-value-size.true)) in
    stopped t at.In-Some
    (λ rest.
    entered t at.After-list_size-size rest
    ∙ Laws.inside_unheld c.args.want (value_at c.args.s.now c.loop-at.sub) v (tlvs_whole rest) e)

pub returns-in_default-walk-clause-found : goal.returns-in_default-walk-clause-found
returns-in_default-walk-clause-found t c =
    let at = goal.at.returns-in_default-walk-clause-found t c in
    let v = part c.args.s.now c.in-Some.field-0.value.from c.in-Some.field-0.value.len in
    let w = walked t at.After-list_size-size c.if-value-size.false c.in_default-walk.ensures.found in
    stopped t at.In-Some
    (λ rest.
    entered t at.After-list_size-size rest
    ∙ Laws.inside_torn c.args.want (value_at c.args.s.now c.loop-at.sub) v (tlvs_whole rest) (held t at.After-list_size-size c.if-value-size.false) w)

pub loop-at-preserved-in-None : goal.loop-at-preserved-in-None
loop-at-preserved-in-None t c =
    let a = c.args in
    let l = c.loop-at in
    let i = c.in-Some.field-0 in
    let b = c.in-Some.ensures.within in
    stepped t (goal.at.loop-at-preserved-in-None t c).In-Some l.list (Some i.value) l.invariant.1 (omega arith)
    (λ rest. rw c.if-inner.true
    (Laws.onward_hit a.want i.kind (part a.s.now i.value.from i.value.len) rest (value_at a.s.now l.list) (value_at a.s.now l.sub)
    (rw c.in-None.is) (eq-eqb _ _ c.if-kind-want.true)))

pub loop-at-preserved-in-Some-sub : goal.loop-at-preserved-in-Some-sub
loop-at-preserved-in-Some-sub t c =
    let a = c.args in
    let l = c.loop-at in
    let i = c.in-Some.field-0 in
    stepped t (goal.at.loop-at-preserved-in-Some-sub t c).In-Some l.list l.sub l.invariant.1 l.invariant.2
    (λ rest. rw c.if-inner.true
    (Laws.onward_kept a.want i.kind (part a.s.now i.value.from i.value.len) rest a.s.now (value_at a.s.now l.list) l.sub (rw c.in-Some-sub.is)))

pub loop-at-preserved-else-kind-want : goal.loop-at-preserved-else-kind-want
loop-at-preserved-else-kind-want t c =
    let a = c.args in
    let l = c.loop-at in
    let i = c.in-Some.field-0 in
    stepped t (goal.at.loop-at-preserved-else-kind-want t c).In-Some l.list l.sub l.invariant.1 l.invariant.2
    (λ rest. rw c.if-inner.true
    (Laws.onward_miss a.want i.kind (part a.s.now i.value.from i.value.len) rest (value_at a.s.now l.list) (value_at a.s.now l.sub) (ne_eqb _ _ c.if-kind-want.false)))

pub loop-at-preserved-in-Some-list : goal.loop-at-preserved-in-Some-list
loop-at-preserved-in-Some-list t c =
    let a = c.args in
    let l = c.loop-at in
    let i = c.in-Some.field-0 in
    stepped t (goal.at.loop-at-preserved-in-Some-list t c).In-Some l.list l.sub l.invariant.1 l.invariant.2
    (λ rest. rw c.if-inner.false
    (Laws.onward_later a.want i.kind (part a.s.now i.value.from i.value.len) rest a.s.now l.list (value_at a.s.now l.sub) (rw c.in-Some-list.is)))

pub loop-at-preserved : goal.loop-at-preserved
loop-at-preserved t c =
    let a = c.args in
    let l = c.loop-at in
    let i = c.in-Some.field-0 in
    stepped t (goal.at.loop-at-preserved t c).In-Some l.list l.sub l.invariant.1 l.invariant.2
    (λ rest. rw c.if-inner.false
    (Laws.onward_other a.want i.kind (part a.s.now i.value.from i.value.len) rest (value_at a.s.now l.list) (value_at a.s.now l.sub) (ne_eqb _ _ c.if-kind-eq-PATH_SETUP.false)))

pub loop-at-preserved-in-Some-walk : goal.loop-at-preserved-in-Some-walk
loop-at-preserved-in-Some-walk t c =
    let at = goal.at.loop-at-preserved-in-Some-walk t c in
    let a = c.args in
    let v = c.in-Some.field-0.value in
    let p = part a.s.now v.from v.len in
    let inside = c.in-Some-walk.inside.sub in
    let b = c.in-Some.ensures.within in
    let w = walked t at.After-list_size-size c.if-value-size.false c.in-Some-walk.ensures.found in
    let i = c.in-Some-walk.ensures.within in
    stepped t at.In-Some (Some v) inside (omega arith, rw (← size_same t at.After-list_size-size) c.if-value-size.false) i.1
    (λ rest.
    entered t at.After-list_size-size rest
    ∙ Laws.inside_seen a.want (value_at a.s.now c.loop-at.sub) p (tlvs_whole rest) (held t at.After-list_size-size c.if-value-size.false) w
    ∙ Laws.onward_found a.inner a.want p (value_at a.s.now inside) rest c.if-inner.false)

pub returns-clause-found : goal.returns-clause-found
returns-clause-found t c = Laws.left_end c.loop-at.invariant.3 c.loop-at-test.false
