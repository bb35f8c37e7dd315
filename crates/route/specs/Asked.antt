-- "The number of segments with anything of the kind" (document 02, C-18): of n segments from segment i on, each asked for by its number, how many are
-- stray by what is then handed out. The theorems cite it.
use Rattle.std.specs.Prelude.{ℕ, zero, suc, ◌+◌, Bool, cond, List}
use Rattle.forms.specs.declared.Form.{Form}
use Rattle.session.specs.declared.Session.{Session}
use Rattle.subobject_strays.specs.Strays.{is_stray}
use Rattle.route.specs.Routes.{segment_as}

abbrev pub stray_asked : Form → List ℕ → Bool → Session → ℕ → ℕ → ℕ → ℕ
stray_asked form s ero session pst i zero = 0
stray_asked form s ero session pst i (suc n) = cond (is_stray (segment_as form s ero session pst i).strays) 1 0 + stray_asked form s ero session pst (suc i) n
