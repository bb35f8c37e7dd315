use native.Mathlib.Omega.{arith}
use mathlib.Core.Logic.{inl, inr}
use Rattle.board_search.proofs.Tracks.{least_none, least_skip, least_first, least_less, least_keep, bare_no, bare_yes, oldest_done}
use Rattle.board_search.proofs.report.oldest.Goals as goal
use Rattle.board_search.proofs.report.oldest.Goals.{then-b-i, else-b-i, then-b-i-ne0-via-then-b-i-ne0, then-b-i-ne0-via-else-b-i-ne0+then-b-i-eq0}

pub loop-i-init : goal.loop-i-init
loop-i-init c = (least_none _ _, tt)

pub loop-i-preserved-then-b-i-ne0 : goal.loop-i-preserved-then-b-i-ne0
loop-i-preserved-then-b-i-ne0 c = (
  elim c.then-b-i-ne0.branch [
    | then-b-i-ne0-via-then-b-i-ne0 w ↦ least_skip _ _ _ _ (bare_no _ _ (inl w.if-b-i-ne0.true)) c.loop-i.invariant.0
    | then-b-i-ne0-via-else-b-i-ne0+then-b-i-eq0 w ↦ least_skip _ _ _ _ (bare_no _ _ (inr w.if-b-i-eq0.true)) c.loop-i.invariant.0
  ],
  c.loop-i.invariant.1,
)

pub loop-i-preserved-in_default : goal.loop-i-preserved-in_default
loop-i-preserved-in_default c = (
  least_first _ _ _ (bare_yes _ _ c.if-b-i-ne0.false c.if-b-i-eq0.false) (rw c.in_default.is at c.loop-i.invariant.0),
  c.loop-i-test.true,
)

pub loop-i-preserved : goal.loop-i-preserved
loop-i-preserved c =
    let e = rw c.in-Some.is at c.loop-i.invariant.0 in
    let l = rw c.in-Some.is at c.loop-i.invariant.1 in
    elim c.if-b-i.branch [
      | then-b-i w ↦ rw w.best-is
          (least_less _ _ _ _ (bare_yes _ _ c.if-b-i-ne0.false c.if-b-i-eq0.false) e l w.if-b-i.true, c.loop-i-test.true)
      | else-b-i w ↦ rw w.best-is (least_keep _ _ _ _ e l w.if-b-i.false, l)
    ]

pub returns-clause-oldest : goal.returns-clause-oldest
returns-clause-oldest c =
    let b = c.args.b in
    oldest_done b.keys.now b.versions.now b.lengths.now b.version b.floor b.forms.now c.requires _ _ c.loop-i.invariant.0 c.loop-i.auto.i-end c.loop-i-test.false
