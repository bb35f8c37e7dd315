-- What a report answers and writes is what the definitions say, rule by rule: one law for each way out of the code, and what the passed rules say
-- (`Passed`) for the needs between. Assumes nothing.
use Prim.Native.Nat.{ℕ, ◌+◌, ◌-◌, ◌*◌, ◌<◌, ◌≤◌}
use native.Mathlib.Omega.{arith}
use mathlib.Core.Path.{◌≡◌, refl, sym, ap, ◌∙◌}
use mathlib.Core.Bool.{Bool, true, false, not, cond}
use mathlib.Core.List.{List}
use mathlib.Core.Logic.{⊎_elim}
use lib.ListN.{length, take, drop, length-drop}
use lib.Dec.{eqb, ltb, leb}
use borrow.Author.Tests.{eqb-false, ltb-false, leb-false, lt-leb}
use Rattle.std.proofs.Common.{Option, None, Some, Result}
use Rattle.std.specs.Prelude.{IfSome, is_some}
use Rattle.std.specs.Option.{unwrap_or}
use Rattle.answers.specs.declared.verdict.Verdict.{Verdict}
use Rattle.answers.specs.Numbers.{not_a_board}
use Rattle.answers.specs.declared.refusal.Refusal.{Refusal}
use Rattle.answers.specs.declared.refusal.Counts.{Counts}
use Rattle.answers.specs.Verdicts.{refused_by, carrying_both, refusal_of, verdict_of}
use Rattle.answers.proofs.Results.{refused_numbered}
use Rattle.answers.proofs.Kept.{kept_old, kept_new}
use Rattle.octets.specs.Octets.{placed}
use Rattle.octets.proofs.Laws.{rest_lent}
use Rattle.session.specs.declared.Session.{Session}
use Rattle.route.specs.Routes.{judge_of}
use Rattle.objects.specs.Objects.{srv6_setup, mpls_setup}
use Rattle.board_record.specs.Sizes.{places, room, key_least, key_most, version_most}
use Rattle.board_record.specs.declared.record.Board.{Board}
use Rattle.board_record.specs.Record.{table_in, with_rows, tidy}
use Rattle.board_record.specs.Order.{order_of}
use Rattle.board_record.specs.Tops.{tops_of}
use Rattle.board_record.specs.Table.{Table, bearing, changed}
use Rattle.board_record.specs.Search.{target_of, floor_after}
use Rattle.board_rules.specs.Rules.{is_board, in_range, outcome_of}
use Rattle.board_rules.specs.Report.{body_in, report_rules, report_verdict, reported, report_with, store_with, report_answer, report_store}
use Rattle.board_rules.proofs.Keeps.{BodyFits, body_fits, least_some}
use Rattle.board_rules.proofs.Verdicts.{rule_passed, route_passed, range_passed}
use Rattle.board_rules.specs.OnRecord.{is_record, result_of, report_on, report_store_on}
use Rattle.board_rules.proofs.Told.{board_not, board_is, board_room}
use Rattle.board_rules.proofs.OnRecord.{record_is, result_not, result_refused, result_accepted, store_not, store_on}

-- what the passed rules say
pub record Passed (k : ℕ) (route : Verdict) (n version target : ℕ) : Type 0 where
  pub low : key_least ≤ k
  pub key : k ≤ key_most
  pub route_taken : route.number ≡ 0
  pub size : n ≤ room
  pub used_up : version ≡ version_most → ⊥
  pub place : target < places

pub passed : (k : ℕ) (route : Verdict) (n version target : ℕ) (v : Verdict) → v ≡ report_rules true k route n version target → v.number ≡ 0 → Passed k route n version target
unfolding report_rules
passed k route n version target v e z =
    let a = rule_passed (not (in_range k)) 17 0 _ (ap (λ (y : Verdict). y.number) (sym e) ∙ z) in
    let b = route_passed route _ a.1 in
    let c = rule_passed (ltb room n) 18 0 _ b.1 in
    let d = rule_passed (eqb version version_most) 19 0 _ c.1 in
    let f = rule_passed (leb places target) 20 0 _ d.1 in
    record {
      low = (range_passed k a.0).0;
      key = (range_passed k a.0).1;
      route_taken = b.0;
      size = ltb-false room n c.0;
      used_up = eqb-false version version_most d.0;
      place = leb-false places target f.0;
    }

-- an accepted ERO has a header and a body, and its PST is a form's
module _ (octets : List ℕ) (session : Session) (pst : ℕ) (route : Verdict) (e : route ≡ judge_of octets true session pst) (z : route.number ≡ 0) where
  fits : BodyFits octets pst
  fits = body_fits octets session pst (ap (λ (y : Verdict). y.number) (sym e) ∙ z)

  pub body_there : 12 ≤ length octets
  body_there =
      let q : length (drop 4 octets) ≡ length octets - 4 = length-drop 4 octets in
      omega (arith, least_some pst, fits.least)

  pub form_small : pst < 256
  form_small = ⊎_elim (λ (y : pst ≡ srv6_setup). omega arith) (λ (y : pst ≡ mpls_setup). omega arith) fits.form

module _ (b : Table) (store : List ℕ) (k : ℕ) (octets : List ℕ) (session : Session) (pst : ℕ) where
  -- ---- 17
  pub report_not_board : (r : Bool) (v : Verdict) → r ≡ is_board b (length store) → not r ≡ true → v ≡ refused_by not_a_board 0 → outcome_of v b ≡ report_answer b store k octets session pst
  unfolding report_answer report_with report_verdict report_rules
  report_not_board r v e t q = rw (q, board_not b (length store) r e t)

  pub store_not_board : (r : Bool) → r ≡ is_board b (length store) → not r ≡ true → store ≡ report_store b store k octets session pst
  unfolding report_store store_with report_verdict report_rules
  store_not_board r e t = rw (board_not b (length store) r e t)

  -- ---- the other rules
  pub report_verdict_lem : (r : Bool) (at n : ℕ) (route v : Verdict) → r ≡ is_board b (length store) → not r ≡ false → at ≡ target_of b k → n ≡ length octets - 4 → route
      ≡ judge_of octets true session pst
      → v ≡ report_rules true k route n b.version at
      → v ≡ report_verdict b store k octets (judge_of octets true session pst)
  unfolding report_verdict
  report_verdict_lem r at n route v e t p f g q = rw (board_is b (length store) r e t, ← p, length-drop 4 octets, ← f, ← g) q

  pub report_refused : (v : Verdict) → v ≡ report_verdict b store k octets (judge_of octets true session pst) → (v.number ≡ 0 → ⊥) → outcome_of v b ≡ report_answer b store k octets session pst
  unfolding report_answer report_with
  report_refused v e d = rw (← e, kept_old v.number b (reported b k octets pst) d)

  pub store_refused : (v : Verdict) → v ≡ report_verdict b store k octets (judge_of octets true session pst) → (v.number ≡ 0 → ⊥) → store ≡ report_store b store k octets session pst
  unfolding report_store store_with
  store_refused v e d = rw (← e, kept_old v.number store (placed store (room * target_of b k) (body_in octets)) d)

  -- ---- accepted
  reported_is : (at n f : ℕ) → at ≡ target_of b k → n ≡ length octets - 4 → f ≡ floor_after b k at → changed b at (bearing b k n pst) f ≡ reported b k octets pst
  unfolding reported
  reported_is at n f p q r = rw (← p, length-drop 4 octets, q, r)

  pub report_accepted : (at n f : ℕ) (d : Table) (v : Verdict) → v ≡ report_verdict b store k octets (judge_of octets true session pst) → v.number ≡ 0 → at ≡ target_of b k → n ≡ length octets - 4
      → f ≡ floor_after b k at
      → d ≡ changed b at (bearing b k n pst) f
      → outcome_of v d ≡ report_answer b store k octets session pst
  unfolding report_answer report_with
  report_accepted at n f d v e z p q r g = rw (← e, kept_new v.number b (reported b k octets pst) z, g ∙ reported_is at n f p q r)

  pub store_accepted : (at from : ℕ) (v : Verdict) (after : List ℕ) → v ≡ report_verdict b store k octets (judge_of octets true session pst) → v.number ≡ 0 → at ≡ target_of b k → from ≡ room * at
      → after ≡ placed store from (take (length octets - 4) (drop 4 octets))
      → after ≡ report_store b store k octets session pst
  unfolding report_store store_with
  store_accepted at from v after e z p g q =
      rw (← e, kept_new v.number store (placed store (room * target_of b k) (body_in octets)) z, ← p, ← g) (q ∙ ap (placed store from) (rest_lent octets 4))

  -- ---- what the stores need
  pub report_room : (r : Bool) (at : ℕ) → r ≡ is_board b (length store) → not r ≡ false → at < places → room * at + room ≤ length store
  report_room r at e t l = omega (arith, board_room b (length store) (board_is b (length store) r e t))

-- of the place the rules ask only whether there is one
place_asked : (k : ℕ) (route : Verdict) (n version : ℕ) (place : Option ℕ) → IfSome place (λ i. i < places)
    → report_rules true k route n version (cond (is_some place) 0 places) ≡ report_rules true k route n version (unwrap_or place places)
unfolding report_rules
place_asked k route n version None w = refl
place_asked k route n version (Some i) w = rw (lt-leb places i w)

pub lay_fits : (store octets : List ℕ) (at n from : ℕ) → n ≡ length octets - 4 → n ≤ room → room * at + room ≤ length store → from ≡ room * at
    → from + length (take (length octets - 4) (drop 4 octets)) ≤ length store
lay_fits store octets at n from e l h g = rw (rest_lent octets 4, length-drop 4 octets) (omega arith)

-- ---- on a record, from what the code knows of the record that it lends
module _ (b l : Board) (same : l ≡ b) (store : List ℕ) (k : ℕ) (octets : List ℕ) (session : Session) (pst : ℕ) where
  pub report_none : false ≡ is_record l (length store)
      → (result_of (refused_by not_a_board 0) b ≡ report_on b store k octets session pst) × (store ≡ report_store_on b store k octets session pst)
  report_none e =
      let f : false ≡ is_record b (length store) = e ∙ ap (λ (x : Board). is_record x (length store)) same in (
        result_not b (refused_by not_a_board 0) (report_answer (table_in b) store k octets session pst) (length store) false f refl refl
            (λ h. report_not_board (table_in b) store k octets session pst false (refused_by not_a_board 0) (sym h) refl refl),
        store_not b store k octets session pst (length store) false f refl
            (λ h. store_not_board (table_in b) store k octets session pst false (sym h) refl),
      )

  module _ (e : true ≡ is_record l (length store)) where
    pub report_board : (is_board (table_in b) (length store) ≡ true) × (tidy b ≡ true)
    report_board = record_is b (length store) true (e ∙ ap (λ (x : Board). is_record x (length store)) same) refl

    module _ (n : ℕ) (m : n ≡ length octets - 4) (route : Result Counts Refusal) (j : verdict_of route ≡ judge_of octets true session pst)
        (place : Option ℕ) (p : unwrap_or place places ≡ target_of (table_in l) k) (within : IfSome place (λ i. i < places)) where
      target_is : unwrap_or place places ≡ target_of (table_in b) k
      target_is = p ∙ ap (λ (x : Board). target_of (table_in x) k) same

      by_place : (v : Verdict) → v ≡ report_rules true k (verdict_of route) n b.version (cond (is_some place) 0 places)
          → v ≡ report_rules true k (verdict_of route) n b.version (unwrap_or place places)
      by_place v q = q ∙ place_asked k (verdict_of route) n b.version place within

      verdict_is : (v : Verdict) → v ≡ report_rules true k (verdict_of route) n b.version (cond (is_some place) 0 places)
          → v ≡ report_verdict (table_in b) store k octets (judge_of octets true session pst)
      verdict_is v q =
          report_verdict_lem (table_in b) store k octets session pst true (unwrap_or place places) n (verdict_of route) v (sym report_board.0) refl target_is m j
          (by_place v q)

      pub report_refusal : (r : Refusal) → refusal_of r ≡ report_rules true k (verdict_of route) n b.version (cond (is_some place) 0 places)
          → (result_of (refusal_of r) b ≡ report_on b store k octets session pst) × (store ≡ report_store_on b store k octets session pst)
      report_refusal r q =
          let v = verdict_is (refusal_of r) q in let d = refused_numbered r in (
            result_refused b (refusal_of r) (report_answer (table_in b) store k octets session pst) report_board.1
                (report_refused (table_in b) store k octets session pst (refusal_of r) v d) d,
            store_on b store k octets session pst store report_board.1 (store_refused (table_in b) store k octets session pst (refusal_of r) v d),
          )

      module _ (at : ℕ) (f : place ≡ Some at) (counts : Counts)
          (q : carrying_both counts.count counts.stray ≡ report_rules true k (verdict_of route) n b.version (cond (is_some place) 0 places)) where
        at_is : at ≡ target_of (table_in b) k
        at_is = sym (ap (λ (x : Option ℕ). unwrap_or x places) f) ∙ target_is

        pub report_passed : Passed k (verdict_of route) n b.version at
        report_passed =
            passed k (verdict_of route) n b.version at (carrying_both counts.count counts.stray)
            (by_place _ q ∙ ap (λ (x : Option ℕ). report_rules true k (verdict_of route) n b.version (unwrap_or x places)) f) refl

        pub report_fits : (12 ≤ length octets) × (pst < 256)
        report_fits =
            let z = report_passed.route_taken in
            (body_there octets session pst (verdict_of route) j z, form_small octets session pst (verdict_of route) j z)

        pub report_lies : (from : ℕ) → from ≡ room * at → from + length (take (length octets - 4) (drop 4 octets)) ≤ length store
        report_lies from g =
            lay_fits store octets at n from m report_passed.size (report_room (table_in b) store k octets session pst true at (sym report_board.0) refl report_passed.place) g

        pub report_done : (raised from : ℕ) (d : Table) (order tops after : List ℕ) → raised ≡ floor_after (table_in l) k at
            → d ≡ changed (table_in b) at (bearing (table_in b) k n pst) raised → order ≡ order_of d → tops ≡ tops_of d.versions
            → from ≡ room * at → after ≡ placed store from (take (length octets - 4) (drop 4 octets))
            → (result_of (carrying_both counts.count counts.stray) (with_rows d order tops) ≡ report_on b store k octets session pst)
            × (after ≡ report_store_on b store k octets session pst)
        report_done raised from d order tops after h g o t s w =
            let v = verdict_is (carrying_both counts.count counts.stray) q in
            let x : raised ≡ floor_after (table_in b) k at = h ∙ ap (λ (y : Board). floor_after (table_in y) k at) same in (
              result_accepted b (carrying_both counts.count counts.stray) (report_answer (table_in b) store k octets session pst) d order tops report_board.1
                  (report_accepted (table_in b) store k octets session pst at n raised d _ v refl at_is m x g) refl o t,
              store_on b store k octets session pst after report_board.1 (store_accepted (table_in b) store k octets session pst at from _ after v refl at_is s w),
            )
