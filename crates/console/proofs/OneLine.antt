-- "It .. writes exactly one line for each": the answer to a line that is not skipped is one line, with no newline but at its end. Every word that a line is made of has octets above 31 only
-- (`clear-..`), words joined by spaces have too (`line_one`), and each row of the table gives such a line (`by_verb_one`).
use Rattle.std.specs.Prelude.{Option, None, Some}
use Prim.Native.Nat.{ℕ, zero, suc, ◌+◌, ◌/◌, ◌%◌, ◌<◌}
use mathlib.Core.Path.{◌≡◌, refl, sym, ◌∙◌, ap}
use mathlib.Core.Bool.{Bool, true, false, cond, ◌&&◌}
use mathlib.Core.List.{List, [], ◌∷◌, ◌++◌, append_assoc}
use lib.Dec.{eqb, ltb}
use lib.ListN.{take, get_or}
use native.Mathlib.Omega.{arith}
use borrow.Author.Tests.{lt-ltb}
use Rattle.octets.proofs.Said.{both_true}
use Rattle.answers.specs.declared.verdict.Verdict.{Verdict}
use Rattle.session.specs.Opened.{Opened}
use Rattle.subobject.specs.declared.segment.Segment.{Segment}
use Rattle.subobject_strays.specs.declared.Strays.{Strays}
use Rattle.forms.specs.declared.Form.{Form}
use Rattle.forms.specs.Forms.{nai_length}
use Rattle.writer_state.specs.Written.{Written}
use Rattle.route.specs.Picked.{Picked}
use Rattle.board_rules.specs.Handed.{Handed, Refused, Path, Removed, Level}
use Rattle.board_look_by_value.specs.ByValue.{body_number_by_value, body_by_value, body_form_by_value, next_by_value, moved_by_value, fresh_mark_on}
use Rattle.printing.specs.Text.{spell, decimal_of, glyph_of, hex_of, octets_text, further_text, list_text}
use Rattle.words.specs.Words.{newline, space, comma, ascii}
use Rattle.console_lines.specs.Lines.{line_of, acceptance, refusal_line, open_refusal_line, bad_line, done_line, one_line, two_line, octets_line, form_line, list_line}
use Rattle.console_line_ends.specs.Ends.{bit, limit_text, depth_text, mpls_words, stray_words, label_words}
use Rattle.console_fields.specs.Shown.{open_line, opened_line, structure_text, segment_line}
use Rattle.command_forms.specs.declared.verb.Verb.{Verb}
use Rattle.command_forms.specs.declared.verb.Verb.TheVariants as v
use Rattle.command.specs.declared.Command.{Command}
use Rattle.command.specs.Commands.{command_of}
use Rattle.console_state.specs.State.{Console}
use Rattle.console_state.specs.Answers.{answer_line, count_line, plain_line}
use Rattle.console_routes.specs.RouteLines.{open_in, route_line, picked_line, segment_answer}
use Rattle.console_writer.specs.WriterLines.{place_line, finish_line}
use Rattle.console_chain.specs.Chain.{chain_of}
use Rattle.console_board.specs.BoardLines.{body_line, handed_line, next_line, moved_line}
use Rattle.console_dialogue.specs.Turns.{turn_by, turn_of}

-- Octets above 31, none of them a newline.
unfoldable pub clear : List ℕ → Bool
clear [] = true
clear (c ∷ cs) = ltb 31 c && clear cs

unfoldable pub all_clear : List (List ℕ) → Bool
all_clear [] = true
all_clear (w ∷ ws) = clear w && all_clear ws

pub record OneLine (text : List ℕ) : Type 0 where
  pub line : List ℕ
  pub bare : clear line ≡ true
  pub same : text ≡ line ++ (newline ∷ [])

-- ## Octets

clear_cons : (c : ℕ) (cs : List ℕ) → 31 < c → clear cs ≡ true → clear (c ∷ cs) ≡ true
unfolding clear
clear_cons c cs h e = rw (lt-ltb 31 c h) e

clear_append : (a b : List ℕ) → clear a ≡ true → clear b ≡ true → clear (a ++ b) ≡ true
unfolding clear
clear_append [] b p q = q
clear_append (c ∷ cs) b p q = let h = both_true (ltb 31 c) (clear cs) p in rw h.0 (clear_append cs b h.1 q)

clear_none : clear [] ≡ true
unfolding clear
clear_none = refl

all_none : all_clear [] ≡ true
unfolding all_clear
all_none = refl

all_cons : (w : List ℕ) (ws : List (List ℕ)) → clear w ≡ true → all_clear ws ≡ true → all_clear (w ∷ ws) ≡ true
unfolding all_clear
all_cons w ws p q = rw p q

clear_spell : (f n : ℕ) → clear (spell f n) ≡ true
unfolding spell
clear_spell zero n = clear_none
clear_spell (suc f) n = go (ltb n 10) (clear_spell f (n / 10)) where
  go : (t : Bool) → clear (spell f (n / 10)) ≡ true → clear (cond t ((48 + n) ∷ []) (spell f (n / 10) ++ ((48 + n % 10) ∷ []))) ≡ true
  go true h = clear_cons (48 + n) [] (omega arith) clear_none
  go false h = clear_append (spell f (n / 10)) ((48 + n % 10) ∷ []) h (clear_cons (48 + n % 10) [] (omega arith) clear_none)

clear_decimal : (n : ℕ) → clear (decimal_of n) ≡ true
unfolding decimal_of
clear_decimal n = clear_spell 20 n

glyph_clear : (d : ℕ) → 31 < glyph_of d
unfolding glyph_of
glyph_clear d = go (ltb d 10) where
  go : (t : Bool) → 31 < cond t (48 + d) (55 + d)
  go true = omega arith
  go false = omega arith

clear_hex : (s : List ℕ) → clear (hex_of s) ≡ true
unfolding hex_of
clear_hex [] = clear_none
clear_hex (x ∷ xs) = clear_cons (glyph_of (x / 16)) (glyph_of (x % 16) ∷ hex_of xs) (glyph_clear (x / 16)) (clear_cons (glyph_of (x % 16)) (hex_of xs) (glyph_clear (x % 16)) (clear_hex xs))

clear_octets : (s : List ℕ) → clear (octets_text s) ≡ true
unfolding octets_text clear
clear_octets [] = refl
clear_octets (x ∷ xs) = clear_hex (x ∷ xs)

clear_limit : (l : Option ℕ) → clear (limit_text l) ≡ true
unfolding clear
clear_limit None = refl
clear_limit (Some n) = clear_decimal n

clear_depth : (d : Option ℕ) → clear (depth_text d) ≡ true
unfolding clear
clear_depth None = refl
clear_depth (Some v) = clear_decimal v

clear_comma : (n : ℕ) (t : List ℕ) → clear t ≡ true → clear (decimal_of n ++ (comma ∷ t)) ≡ true
clear_comma n t h = clear_append (decimal_of n) (comma ∷ t) (clear_decimal n) (clear_cons comma t (omega arith) h)

clear_structure : (there : Bool) (bits : List ℕ) → clear (structure_text bits there) ≡ true
unfolding clear
clear_structure true bits = clear_comma (get_or bits 0 0) _ (clear_comma (get_or bits 1 0) _ (clear_comma (get_or bits 2 0) _ (clear_decimal (get_or bits 3 0))))
clear_structure false bits = refl

-- ## Lines

pub line_one : (ws : List (List ℕ)) (w : List ℕ) → clear w ≡ true → all_clear ws ≡ true → OneLine (line_of w ws)
unfolding all_clear
line_one [] w h a = record { line = w; bare = h; same = refl }
line_one (x ∷ ws) w h a =
    let b = both_true (clear x) (all_clear ws) a in
    let r = line_one ws (w ++ (space ∷ x)) (clear_append w (space ∷ x) h (clear_cons space x (omega arith) b.0)) b.1 in
    record { line = r.line; bare = r.bare; same = sym (append_assoc w (space ∷ x) _) ∙ r.same }

nought : clear (48 ∷ []) ≡ true
unfolding clear
nought = refl

accepted_one : (ws : List (List ℕ)) → all_clear ws ≡ true → OneLine (acceptance ws)
accepted_one ws h = line_one ((48 ∷ []) ∷ ws) (48 ∷ []) nought (all_cons (48 ∷ []) ws nought h)

refusal_one : (number place : ℕ) → OneLine (refusal_line number place)
refusal_one number place = line_one (decimal_of place ∷ []) (decimal_of number) (clear_decimal number) (all_cons (decimal_of place) [] (clear_decimal place) all_none)

bad_one : (n : ℕ) → OneLine (bad_line n)
unfolding clear
bad_one n =
    line_one (ascii "line" ∷ decimal_of n ∷ []) (ascii "bad") refl
    (all_cons (ascii "line") (decimal_of n ∷ []) refl (all_cons (decimal_of n) [] (clear_decimal n) all_none))

number_one : (n : ℕ) → OneLine (one_line n)
number_one n = accepted_one (decimal_of n ∷ []) (all_cons (decimal_of n) [] (clear_decimal n) all_none)

numbers_clear : (a b : ℕ) (ws : List (List ℕ)) → all_clear ws ≡ true → all_clear (decimal_of a ∷ decimal_of b ∷ ws) ≡ true
numbers_clear a b ws h = all_cons (decimal_of a) (decimal_of b ∷ ws) (clear_decimal a) (all_cons (decimal_of b) ws (clear_decimal b) h)

two_one : (a b : ℕ) → OneLine (two_line a b)
two_one a b = accepted_one (decimal_of a ∷ decimal_of b ∷ []) (numbers_clear a b [] all_none)

octets_clear : (s : List ℕ) → all_clear (octets_text s ∷ []) ≡ true
octets_clear s = all_cons (octets_text s) [] (clear_octets s) all_none

octets_one : (s : List ℕ) → OneLine (octets_line s)
octets_one s = accepted_one (octets_text s ∷ []) (octets_clear s)

clear_further : (s : List ℕ) → clear (further_text s) ≡ true
unfolding further_text
clear_further [] = clear_none
clear_further (x ∷ xs) = clear_append (comma ∷ decimal_of x) (further_text xs) (clear_cons comma (decimal_of x) (omega arith) (clear_decimal x)) (clear_further xs)

clear_list : (s : List ℕ) → clear (list_text s) ≡ true
unfolding list_text clear
clear_list [] = refl
clear_list (x ∷ xs) = clear_append (decimal_of x) (further_text xs) (clear_decimal x) (clear_further xs)

list_one : (s : List ℕ) → OneLine (list_line s)
list_one s = accepted_one (list_text s ∷ []) (all_cons (list_text s) [] (clear_list s) all_none)

form_one : (form : ℕ) (s : List ℕ) → OneLine (form_line form s)
form_one form s = accepted_one (decimal_of form ∷ octets_text s ∷ []) (all_cons (decimal_of form) (octets_text s ∷ []) (clear_decimal form) (octets_clear s))

mpls_clear : (o : Opened) → all_clear (mpls_words o) ≡ true
mpls_clear o = numbers_clear (bit o.mpls) (bit o.mplsn) _ (all_cons (limit_text o.mplslimit) [] (clear_limit o.mplslimit) all_none)

open_one : (o : Opened) → OneLine (open_line o)
open_one o =
    let v = depth_text o.v in
    let m = depth_text o.m in
    accepted_one _ (numbers_clear (bit o.srv6) (bit o.n) _ (all_cons (limit_text o.limit) _ (clear_limit o.limit)
    (numbers_clear (bit o.a) (bit o.r) (v ∷ m ∷ mpls_words o) (all_cons v (m ∷ mpls_words o) (clear_depth o.v)
    (all_cons m (mpls_words o) (clear_depth o.m) (mpls_clear o))))))

open_refusal_one : (number form : ℕ) → OneLine (open_refusal_line number form)
open_refusal_one number form = line_one (decimal_of 0 ∷ decimal_of form ∷ []) (decimal_of number) (clear_decimal number) (numbers_clear 0 form [] all_none)

opened_one : (o : Opened) → OneLine (opened_line o)
opened_one o = go (eqb o.number 0) where
  go : (t : Bool) → OneLine (cond t (open_line o) (open_refusal_line o.number o.form))
  go true = open_one o
  go false = open_refusal_one o.number o.form

label_clear : (m c : Bool) (x : Strays) → all_clear (label_words m c x) ≡ true
label_clear m c x =
    numbers_clear (bit m) (bit c) (stray_words x)
    (numbers_clear x.flags x.structure (decimal_of (bit x.reserved) ∷ [])
    (all_cons (decimal_of (bit x.reserved)) [] (clear_decimal (bit x.reserved)) all_none))

segment_one : (form : Form) (g : Segment) (x : Strays) → OneLine (segment_line form g x)
segment_one form g x =
    let sid = octets_text (take (cond g.hassid form.sid 0) g.sid) in
    let nai = octets_text (take (nai_length form g.nt) g.nai) in
    let structure = structure_text g.structure g.structured in
    let labels = label_words g.labelled g.complete x in
    accepted_one _ (numbers_clear (bit g.loose) (bit g.verify) _ (numbers_clear g.nt g.behaviour (sid ∷ nai ∷ structure ∷ labels)
    (all_cons sid (nai ∷ structure ∷ labels) (clear_octets (take (cond g.hassid form.sid 0) g.sid))
    (all_cons nai (structure ∷ labels) (clear_octets (take (nai_length form g.nt) g.nai))
    (all_cons structure labels (clear_structure g.structured g.structure) (label_clear g.labelled g.complete x))))))

answer_one : (w : Verdict) (accepted : List ℕ) → OneLine accepted → OneLine (answer_line w accepted)
unfolding answer_line
answer_one w accepted h = go (eqb w.number 0) where
  go : (t : Bool) → OneLine (cond t accepted (refusal_line w.number w.place))
  go true = h
  go false = refusal_one w.number w.place

count_one : (w : Verdict) → OneLine (count_line w)
unfolding count_line
count_one w = answer_one w (two_line w.count w.stray) (two_one w.count w.stray)

plain_one : (w : Verdict) → OneLine (plain_line w)
unfolding plain_line
plain_one w = answer_one w done_line (accepted_one [] all_none)

picked_one : (form : Form) (p : Picked) → OneLine (picked_line form p)
unfolding picked_line
picked_one form p = answer_one p.verdict (segment_line form p.segment p.strays) (segment_one form p.segment p.strays)

place_one : (w : Written) → OneLine (place_line w)
unfolding place_line
place_one w = answer_one w.verdict (one_line w.writer.at) (number_one w.writer.at)

handed_one : (store : List ℕ) (h : Handed) → OneLine (handed_line store h)
unfolding clear
handed_one store (Refused w) = refusal_one w.number w.place
handed_one store (Path c o) =
    accepted_one (ascii "path" ∷ _)
    (all_cons (ascii "path") _ refl
    (numbers_clear c.key c.version _
    (all_cons (decimal_of o.form) _ (clear_decimal o.form) (octets_clear _))))
handed_one store (Removed c) = accepted_one (ascii "removed" ∷ _) (all_cons (ascii "removed") _ refl (numbers_clear c.key c.version [] all_none))
handed_one store (Level n) = accepted_one (ascii "level" ∷ decimal_of n ∷ []) (all_cons (ascii "level") (decimal_of n ∷ []) refl (all_cons (decimal_of n) [] (clear_decimal n) all_none))

-- ## Turns

by_verb_one : (w : Verb) → (w ≡ v.Skip → ⊥) → (k : Console) (c : Command) (line : List ℕ) (n : ℕ) → OneLine (turn_by w k c line n).answer
unfolding route_line segment_answer finish_line body_line next_line moved_line
by_verb_one v.Skip h k c line n = absurd (h refl)
by_verb_one v.Bad h k c line n = bad_one n
by_verb_one v.Pcc h k c line n = opened_one (open_in k.positions line)
by_verb_one v.Pce h k c line n = opened_one (open_in k.positions line)
by_verb_one v.Ero h k c line n = count_one _
by_verb_one v.Rro h k c line n = count_one _
by_verb_one v.EroSegment h k c line n = picked_one _ _
by_verb_one v.RroSegment h k c line n = picked_one _ _
by_verb_one v.Begin h k c line n = place_one _
by_verb_one v.Add h k c line n = place_one _
by_verb_one v.Finish h k c line n = answer_one _ _ (octets_one _)
by_verb_one v.Lent h k c line n = octets_one k.lent
by_verb_one v.Report h k c line n = count_one _
by_verb_one v.Remove h k c line n = plain_one _
by_verb_one v.Compact h k c line n = plain_one _
by_verb_one v.Body h k c line n =
    answer_one (body_number_by_value k.board k.store c.one) _ (form_one (body_form_by_value k.board k.store c.one) (body_by_value k.board k.store c.one))
by_verb_one v.Next h k c line n = handed_one k.store (next_by_value k.board k.store c.one c.two)
by_verb_one v.Mark h k c line n = two_one (fresh_mark_on k.board).s (fresh_mark_on k.board).w
by_verb_one v.Board h k c line n = two_one k.board.version k.board.floor
by_verb_one v.Chain h k c line n = list_one (chain_of k.board.order)
by_verb_one v.Positions h k c line n = accepted_one [] all_none
by_verb_one v.Addresses h k c line n = accepted_one [] all_none
by_verb_one v.Moved h k c line n =
    let w = moved_by_value k.board k.store c.one c.two c.three in answer_one w (one_line w.count) (number_one w.count)

pub turn_one : (k : Console) (line : List ℕ) (n : ℕ) → ((command_of line).verb ≡ v.Skip → ⊥) → OneLine (turn_of k line n).answer
unfolding turn_of
turn_one k line n h = by_verb_one (command_of line).verb h k (command_of line) line n

-- A line that is skipped is answered by nothing.
pub turn_none : (k : Console) (line : List ℕ) (n : ℕ) → (command_of line).verb ≡ v.Skip → (turn_of k line n).answer ≡ []
unfolding turn_of
turn_none k line n e = ap (λ (w : Verb). (turn_by w k (command_of line) line n).answer) e
