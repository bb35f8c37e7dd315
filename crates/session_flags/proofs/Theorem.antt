-- "Turning a flag on never turns an accepted path into a refused one" (document 02, C-15), for every session that is made of two OPENs that were read.
use Rattle.std.specs.Prelude.{Option, None, Some}
use Prim.Native.Nat.{ℕ}
use mathlib.Core.Path.{◌≡◌, refl, sym, ap, ◌∙◌}
use mathlib.Core.List.{List, [], ◌∷◌}
use mathlib.Core.Bool.{Bool, true, false, cond}
use lib.ListN.{drop}
use Rattle.flag_positions.specs.declared.Positions.{Positions}
use Rattle.session.specs.Opened.{Opened}
use Rattle.session.specs.Sessions.{open_refused, without_srv6, sessions_of}
use Rattle.capability_mpls.specs.Mpls.{mpls_beside}
use Rattle.open.specs.Open.{mpls_of, srv6_of, mpls_listed, listed, breaks28, said_by, srv6_carried, beside_by, carries_of, Rule, open_rules, first_rule, open_of}
use Rattle.open.proofs.Rules.{limit_of_depths}
use Rattle.route_call.specs.Called.{judged_for, flagged_open, with_a, with_r}
use Rattle.route_call.proofs.Theorems.{flags_never_refuse}
use Rattle.session_flags.specs.Flags.{unflagged, TurnedOn}

-- An answer that is alike is the first with its own flags.
turned_on : {o q : Opened} → TurnedOn o q → q ≡ flagged_open o q.a q.r
turned_on {o} {q} h = ap (λ (u : Opened). flagged_open u q.a q.r) (sym h.alike)

-- The PCC's OPEN x and the PCE's y, read with A and R at any positions; a route, ERO or RRO, that is accepted in their sessions, of either form.
module _ (p : Positions) (x y s : List ℕ) (ero : Bool) (pst : ℕ) (addresses : List ℕ)
    (accepted : (judged_for s ero (sessions_of (open_of p x) (open_of p y)) pst addresses).number ≡ 0) where
  answers_never_refuse : (o q : Opened) → TurnedOn (open_of p x) o → TurnedOn (open_of p y) q
      → judged_for s ero (sessions_of o q) pst addresses ≡ judged_for s ero (sessions_of (open_of p x) (open_of p y)) pst addresses
  answers_never_refuse o q g h =
      (λ i. judged_for s ero (sessions_of (turned_on g i) (turned_on h i)) pst addresses)
      ∙ flags_never_refuse s ero (open_of p x) (open_of p y) pst addresses (limit_of_depths p x) accepted o.a o.r q.a q.r g.a g.r h.a h.r

  -- **With other OPENs at both ends, alike but for flags turned on, the route is accepted with the same counts.**
  pub opens_never_refuse : (x' y' : List ℕ) → TurnedOn (open_of p x) (open_of p x') → TurnedOn (open_of p y) (open_of p y')
      → judged_for s ero (sessions_of (open_of p x') (open_of p y')) pst addresses ≡ judged_for s ero (sessions_of (open_of p x) (open_of p y)) pst addresses
  opens_never_refuse x' y' = answers_never_refuse (open_of p x') (open_of p y')

  -- A and R, at either end.
  pub a_at_the_pcc : judged_for s ero (sessions_of (with_a (open_of p x)) (open_of p y)) pst addresses ≡ judged_for s ero (sessions_of (open_of p x) (open_of p y)) pst addresses
  a_at_the_pcc = answers_never_refuse (with_a (open_of p x)) (open_of p y) (record { alike = refl; a = λ e. refl; r = λ e. e }) (record { alike = refl; a = λ e. e; r = λ e. e })

  pub a_at_the_pce : judged_for s ero (sessions_of (open_of p x) (with_a (open_of p y))) pst addresses ≡ judged_for s ero (sessions_of (open_of p x) (open_of p y)) pst addresses
  a_at_the_pce = answers_never_refuse (open_of p x) (with_a (open_of p y)) (record { alike = refl; a = λ e. e; r = λ e. e }) (record { alike = refl; a = λ e. refl; r = λ e. e })

  pub r_at_the_pcc : judged_for s ero (sessions_of (with_r (open_of p x)) (open_of p y)) pst addresses ≡ judged_for s ero (sessions_of (open_of p x) (open_of p y)) pst addresses
  r_at_the_pcc = answers_never_refuse (with_r (open_of p x)) (open_of p y) (record { alike = refl; a = λ e. e; r = λ e. refl }) (record { alike = refl; a = λ e. e; r = λ e. e })

  pub r_at_the_pce : judged_for s ero (sessions_of (open_of p x) (with_r (open_of p y))) pst addresses ≡ judged_for s ero (sessions_of (open_of p x) (open_of p y)) pst addresses
  r_at_the_pce = answers_never_refuse (open_of p x) (with_r (open_of p y)) (record { alike = refl; a = λ e. e; r = λ e. e }) (record { alike = refl; a = λ e. e; r = λ e. refl })

-- positions ------------------------------------------------------------------------------------------------------

-- All rules but 28: positions play no part in them.
abbrev behind28 : Positions → List ℕ → List Rule
behind28 p s = drop 1 (open_rules p s)

-- Where A and R stand is told by A and R alone: at any two pairs of usable positions all else is the same.
pub positions_tell_flags : (p q : Positions) (s : List ℕ) → breaks28 p ≡ false → breaks28 q ≡ false → unflagged (open_of p s) ≡ unflagged (open_of q s)
unfolding open_of carries_of srv6_carried
positions_tell_flags p q s e f = rw (e, f) (
    refused (behind28 p s) (carries_of p s) (carries_of q s)
    (beside (mpls_listed s) (mpls_of s) (srv6_carried p s) (srv6_carried q s) (said (listed s) (srv6_of s)))
    )
  where
    said : (l : Bool) (o : Option (List ℕ)) → unflagged (cond l (said_by p o) without_srv6) ≡ unflagged (cond l (said_by q o) without_srv6)
    said true None = refl
    said true (Some w) = refl
    said false o = refl

    beside : (l : Bool) (o : Option (List ℕ)) (u v : Opened) → unflagged u ≡ unflagged v → unflagged (beside_by u o l) ≡ unflagged (beside_by v o l)
    beside false o u v h = h
    beside true None u v h = h
    beside true (Some w) u v h = ap (λ (x : Opened). unflagged (mpls_beside x w)) h

    refused : (rs : List Rule) (u v : Opened) → unflagged u ≡ unflagged v → unflagged (first_rule rs u) ≡ unflagged (first_rule rs v)
    refused [] u v h = h
    refused (r ∷ rs) u v h = first r.broken (refused rs u v h)
      where
        first : (b : Bool) → unflagged (first_rule rs u) ≡ unflagged (first_rule rs v)
            → unflagged (cond b (open_refused r.number r.form) (first_rule rs u)) ≡ unflagged (cond b (open_refused r.number r.form) (first_rule rs v))
        first true k = refl
        first false k = k
