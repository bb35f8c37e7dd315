-- A verdict: a refusal's number and place, or an acceptance's counts (document 01, "Numbers answered"; document 02, C-18).
use Rattle.std.specs.Prelude.{ℕ, Result, Ok, Err}
use Rattle.answers.specs.declared.verdict.Verdict.{Verdict}
use Rattle.answers.specs.declared.refusal.Refusal.{Refusal}
use Rattle.answers.specs.declared.refusal.Counts.{Counts}
use Rattle.answers.specs.Reasons.{number_of}

-- Every refusal returns its number and place and no other content.
abbrev pub refused_by : ℕ → ℕ → Verdict
refused_by number place = record { number = number; place = place; count = 0; stray = 0 }

-- Acceptance of a route carries the number of segments, and of those that are stray.
abbrev pub carrying_both : ℕ → ℕ → Verdict
carrying_both count stray = record { number = 0; place = 0; count = count; stray = stray }

-- Any other acceptance: 0 where a call counts nothing.
abbrev pub accepted_with : ℕ → Verdict
accepted_with count = carrying_both count 0

-- What a lent or handed-over thing is after a call that answered `number`:
-- after a refusal board, place in the written object and lent octets stay as they were.
abbrev pub kept : {A : Type 0} → ℕ → A → A → A
kept ℕ.zero old new = new
kept (ℕ.suc n) old new = old

-- ---- a call's result as a verdict

abbrev pub refusal_of : Refusal → Verdict
refusal_of e = refused_by (number_of e.reason) e.place

-- A result, by the verdict that its acceptance is.
abbrev pub answer_of : {A : Type 0} → (A → Verdict) → Result A Refusal → Verdict
answer_of accepted (Ok a) = accepted a
answer_of accepted (Err e) = refusal_of e

-- One that counts segments and stray ones.
abbrev pub verdict_of : Result Counts Refusal → Verdict
verdict_of r = answer_of (λ (c : Counts). carrying_both c.count c.stray) r

-- One that counts.
abbrev pub counted_of : Result ℕ Refusal → Verdict
counted_of r = answer_of accepted_with r

-- One that counts nothing.
abbrev pub passed_of : {A : Type 0} → Result A Refusal → Verdict
passed_of r = answer_of (λ _. accepted_with 0) r
