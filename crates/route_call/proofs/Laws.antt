-- The two ways out of each call: 28, or what the inner call answers under the limit for this route.
use Prim.Native.Nat.{ℕ}
use mathlib.Core.Path.{◌≡◌, sym, ap, ◌∙◌}
use mathlib.Core.List.{List}
use mathlib.Core.Bool.{Bool, true, false, ◌||◌}
use Rattle.answers.specs.declared.verdict.Verdict.{Verdict}
use Rattle.answers.specs.Numbers.{not_usable}
use Rattle.answers.specs.Verdicts.{refused_by}
use Rattle.session.specs.declared.Session.{Session}
use Rattle.subobject.specs.Segments.{no_segment}
use Rattle.subobject_strays.specs.Strays.{no_strays}
use Rattle.route.specs.Picked.{Picked}
use Rattle.route.specs.Routes.{judge_of, segment_of}
use Rattle.octets.proofs.Said.{either_false}
use Rattle.head_end.specs.Addresses.{usable_list}
use Rattle.route_limit.specs.FirstOff.{under_limit, session_for}
use Rattle.route_limit.proofs.Laws.{by_none}
use Rattle.route_call.specs.Called.{rule28, judged_in, segment_in}

module _ (s : List ℕ) (ero : Bool) (session : Session) (pst : ℕ) (addresses : List ℕ) where
  pub judged_28 : {b : Bool} {v : Verdict} → b ≡ usable_list addresses → b ≡ false → v ≡ refused_by not_usable 0 → v ≡ judged_in s ero session pst addresses
  unfolding judged_in rule28
  judged_28 e f g = g ∙ rw (sym e ∙ f)

  -- With neither flag the session stays as it is.
  pub own_session : session.a ≡ false → session.r ≡ false → session_for s ero session addresses ≡ session
  unfolding session_for
  own_session f g = ap (under_limit session) (sym (by_none s ero session addresses g f))

  pub judged_own : {b c : Bool} {own : Session} {v : Verdict} → b ≡ usable_list addresses → b ≡ true → own ≡ session → c ≡ (own.a || own.r) → c ≡ false
      → v ≡ judge_of s ero own pst → v ≡ judged_in s ero session pst addresses
  unfolding judged_in rule28
  judged_own {b} {c} {own} e f o g h k =
      let n = either_false own.a own.r (sym g ∙ h) in
      let a : session.a ≡ false = ap (λ (x : Session). x.a) (sym o) ∙ n.0 in
      let r : session.r ≡ false = ap (λ (x : Session). x.r) (sym o) ∙ n.1 in
      k ∙ ap (λ (x : Session). judge_of s ero x pst) (o ∙ sym (own_session a r)) ∙ rw (sym e ∙ f)

  pub judged_under : {b : Bool} {own g : Session} {v : Verdict} → b ≡ usable_list addresses → b ≡ true → own ≡ session → g ≡ session_for s ero own addresses
      → v ≡ judge_of s ero g pst → v ≡ judged_in s ero session pst addresses
  unfolding judged_in rule28
  judged_under e f o h k = k ∙ ap (λ (x : Session). judge_of s ero x pst) (h ∙ ap (λ (x : Session). session_for s ero x addresses) o) ∙ rw (sym e ∙ f)

  pub picked_28 : (i : ℕ) {b : Bool} {p : Picked} → b ≡ usable_list addresses → b ≡ false → p ≡ record { verdict = refused_by not_usable 0; segment = no_segment; strays = no_strays }
      → p ≡ segment_in s ero session pst addresses i
  unfolding segment_in rule28
  picked_28 i e f g = g ∙ rw (sym e ∙ f)

  pub picked_under : (i : ℕ) {b : Bool} {own g : Session} {p : Picked} → b ≡ usable_list addresses → b ≡ true → own ≡ session → g ≡ session_for s ero own addresses
      → p ≡ segment_of s ero g pst i → p ≡ segment_in s ero session pst addresses i
  unfolding segment_in rule28
  picked_under i e f o h k =
      k ∙ ap (λ (x : Session). segment_of s ero x pst i) (h ∙ ap (λ (x : Session). session_for s ero x addresses) o) ∙ rw (sym e ∙ f)
