use Rattle.printing.specs.Text.{Behind}
use Rattle.printing.proofs.Laws.{then}
use Rattle.std.proofs.Common.{◌≡◌, ◌∙◌, ap, ℕ, List, ◌++◌, rules, append_assoc}
use Rattle.console_fields.proofs.segment.Goals as goal

-- The same, with each part under its other name.
renamed : {b c d e t u : List ℕ} {m n k : ℕ} → Behind b d m k t → b ≡ c → d ≡ e → m ≡ n → t ≡ u → Behind c e n k u
renamed w p q r s = rw (← p, ← q, ← r, ← s) w

-- Three pieces in one are three pieces.
three : (a b c r : List ℕ) → (a ++ (b ++ c)) ++ r ≡ a ++ (b ++ (c ++ r))
three a b c r = append_assoc a (b ++ c) r ∙ ap (λ (t : List ℕ). a ++ t) (append_assoc b c r)

pub returns-clause-told : goal.returns-clause-told
returns-clause-told c =
    renamed
    (then c.push.ensures.behind
    (rw (append_assoc, three) at (then c.head_fields.ensures.behind (rw three at (then c.part_fields.ensures.behind c.labels_end.ensures.behind)))))
    (search rules) (search rules) (search rules) (search rules)
