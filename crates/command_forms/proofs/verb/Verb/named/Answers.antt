use Rattle.command_forms.proofs.Laws.{looking_start, looking_hit, looking_miss, looking_end}
use Rattle.same_octets.specs.Same.{same_octets}
use mathlib.Core.List.{List}
use mathlib.Core.Path.{sym, ◌∙◌, ap}
use Prim.Native.Nat.{ℕ}
use Rattle.command_forms.proofs.verb.Verb.named.Goals as goal

pub loop-verb-init : goal.loop-verb-init
loop-verb-init c = looking_start _

pub returns-then-same : goal.returns-then-same
returns-then-same c =
    let l = c.loop-verb in
    let e = c.same.ensures.same ∙ ap (λ (x : List ℕ). same_octets c.args.w.now x) c.name.ensures.name in
    record { verb = looking_hit _ _ _ c.loop-verb-test.true l.invariant (sym e ∙ c.if-same.true) }

pub loop-verb-preserved : goal.loop-verb-preserved
loop-verb-preserved c =
    let l = c.loop-verb in
    let e = c.same.ensures.same ∙ ap (λ (x : List ℕ). same_octets c.args.w.now x) c.name.ensures.name in
    looking_miss _ _ _ c.loop-verb-test.true l.invariant (sym e ∙ c.if-same.false)

pub returns : goal.returns
returns c = record { verb = looking_end _ _ c.loop-verb-test.false c.loop-verb.invariant }
