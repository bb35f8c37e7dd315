-- The rules of the board's calls as document 01 lists them ("The board"; moved: document 02): the checks of each call in their order, each with its number, its place and
-- when it is broken. The definitions that the contracts cite are chains of tests. No contract cites these lists: proofs/Checks shows that every call answers by the first
-- broken check of its list. `whole` says that 17 isn't broken: `is_board` of a table, `is_record` of a record with its rows.
use Rattle.std.specs.Prelude.{ℕ, max, Bool, true, not, ◌&&◌, ◌||◌, List, [], ◌∷◌, ◌++◌, length, eqb, ltb}
use Rattle.answers.specs.Numbers.{not_a_board, key_out_of_range, body_too_long, versions_used_up, all_paths, no_path, mark_too_old, mark_ahead}
use Rattle.session.specs.declared.Session.{Session}
use Rattle.forms.specs.Forms.{form_of}
use Rattle.frame.specs.Checks.{Check, check}
use Rattle.route.specs.Routes.{checks_of}
use Rattle.board_record.specs.Sizes.{places, room, version_most}
use Rattle.board_record.specs.Table.{Table, key_at, length_at}
use Rattle.board_record.specs.Proper.{all_below, fresh_b}
use Rattle.board_rules.specs.Rules.{in_range}
use Rattle.board_rules.specs.Report.{body_in}

-- a place holds a path, as a test
unfoldable pub path_at_b : Table → ℕ → Bool
path_at_b b i = not (eqb (key_at b i) 0) && not (eqb (length_at b i) 0)

-- 21 "exactly if the key is new and all 128 hold paths"
unfoldable pub full_b : Table → ℕ → Bool
full_b b k = fresh_b b.keys places k && all_below (path_at_b b) places

-- 22 "key has no path": of all 128 places none holds a path of the key
unfoldable pub no_path_b : Table → ℕ → Bool
no_path_b b k = all_below (λ i. not (eqb (key_at b i) k && path_at_b b i)) places

-- "Report (key, ERO, session, PST): 17, 18, the route checks, 19, 20, 21."
abbrev pub report_checks : Bool → Table → ℕ → List ℕ → Session → ℕ → List Check
report_checks whole b k octets session pst =
    check not_a_board 0 (not whole)
    ∷ (check key_out_of_range 0 (not (in_range k))
    ∷ (checks_of (form_of pst) octets true session pst
    ++ (check body_too_long 0 (ltb room (length (body_in octets)))
    ∷ (check versions_used_up 0 (eqb b.version version_most)
    ∷ (check all_paths 0 (full_b b k)
    ∷ [])))))

-- "Remove (key): 17, 18, 22, 20."
abbrev pub remove_checks : Bool → Table → ℕ → List Check
remove_checks whole b k =
    check not_a_board 0 (not whole)
    ∷ (check key_out_of_range 0 (not (in_range k))
    ∷ (check no_path 0 (no_path_b b k)
    ∷ (check versions_used_up 0 (eqb b.version version_most)
    ∷ [])))

-- "Compact (c): 17, 24 if c is above the version."
abbrev pub compact_checks : Bool → Table → ℕ → List Check
compact_checks whole b c =
    check not_a_board 0 (not whole)
    ∷ (check mark_ahead 0 (ltb b.version c)
    ∷ [])

-- "Body (key): 17, 18, 22."
abbrev pub body_checks : Bool → Table → ℕ → List Check
body_checks whole b k =
    check not_a_board 0 (not whole)
    ∷ (check key_out_of_range 0 (not (in_range k))
    ∷ (check no_path 0 (no_path_b b k)
    ∷ []))

-- "Next (mark s, w): 17; 24 if s or w is above the version; 23 exactly if the floor is above the larger of s and w."
abbrev pub next_checks : Bool → Table → ℕ → ℕ → List Check
next_checks whole b s w =
    check not_a_board 0 (not whole)
    ∷ (check mark_ahead 0 (ltb b.version s || ltb b.version w)
    ∷ (check mark_too_old 0 (ltb (max s w) b.floor)
    ∷ []))

-- Moved (document 02): "17, 24 if v is above the version, 23 if the floor is above v".
abbrev pub moved_checks : Bool → Table → ℕ → List Check
moved_checks whole b v =
    check not_a_board 0 (not whole)
    ∷ (check mark_ahead 0 (ltb b.version v)
    ∷ (check mark_too_old 0 (ltb v b.floor)
    ∷ []))
