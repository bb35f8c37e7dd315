-- What a description must keep so that what is written can be read again. No promise rests on it: both forms keep it (proofs/Forms), and every call
-- takes one of the two.
use Rattle.std.specs.Prelude.{ℕ, ◌+◌, ◌*◌, ◌/◌, ◌%◌, ◌≤◌, ◌<◌, ◌≡◌}
use Rattle.forms.specs.declared.Form.{Form}
use Rattle.forms.specs.Forms.{entry_size, form_of, flag_in, nai_length}
use Rattle.writer_spare.specs.NaiSizes.{NaiOctets}

-- Six flags in one octet, each at what it is worth.
abbrev pub together : Form → ℕ → ℕ → ℕ → ℕ → ℕ → ℕ → ℕ
together form v t f s c m = v * form.v + t * form.t + f * form.f + s * form.s + c * form.c + m * form.m

-- Flags are 0 or 1, and 0 where the form has none.
pub record Marks (form : Form) (v t f s c m : ℕ) : Type 0 where
  pub bit_v : v ≤ 1
  pub bit_t : t ≤ 1
  pub bit_f : f ≤ 1
  pub bit_s : s ≤ 1
  pub bit_c : c ≤ 1
  pub bit_m : m ≤ 1
  pub no_t : form.t ≡ 0 → t ≡ 0
  pub no_c : form.c ≡ 0 → c ≡ 0
  pub no_m : form.m ≡ 0 → m ≡ 0

-- Each flag reads back as it was written, and none that is not assigned is set.
pub record FlagsApart (form : Form) (v t f s c m : ℕ) : Type 0 where
  pub back_v : flag_in (together form v t f s c m) form.v ≡ v
  pub back_t : flag_in (together form v t f s c m) form.t ≡ t
  pub back_f : flag_in (together form v t f s c m) form.f ≡ f
  pub back_s : flag_in (together form v t f s c m) form.s ≡ s
  pub back_c : flag_in (together form v t f s c m) form.c ≡ c
  pub back_m : flag_in (together form v t f s c m) form.m ≡ m
  pub none : together form v t f s c m / form.free ≡ 0

pub record Readable (form : Form) : Type 0 where
  -- the number that names the form, and the type of its subobjects
  pub setup : form_of form.setup ≡ form
  pub kind : form.kind < 128
  -- parts are multiples of 4 octets, an NAI has one of six lengths, and a label fits into a SID
  pub sid : form.sid % 4 ≡ 0
  pub label : entry_size ≤ form.sid
  pub nai : (nt : ℕ) → nai_length form nt % 4 ≡ 0
  pub sizes : (nt : ℕ) → NaiOctets (nai_length form nt)
  -- all flags fit into an octet, and stand apart in it
  pub most : form.v + form.t + form.f + form.s + form.c + form.m < 256
  pub apart : (v t f s c m : ℕ) → Marks form v t f s c m → FlagsApart form v t f s c m
  -- an octet is its flags, and those that are not assigned
  pub whole : (a : ℕ) → a < 256
      → a / form.free * form.free
      + together form (flag_in a form.v) (flag_in a form.t) (flag_in a form.f) (flag_in a form.s) (flag_in a form.c) (flag_in a form.m) ≡ a
  -- V has a worth
  pub v : 0 < form.v
  -- of the 12 flags the unassigned ones
  pub strays : (a b : ℕ) → b < 256 → (a * 256 + b) % 4096 / form.free * form.free ≡ a % 16 * 256 + b / form.free * form.free
