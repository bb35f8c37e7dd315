-- The answer to an OPEN object as one record (document 01, "The OPEN object"). What a call answers stands for it by specs/Answered.
use Rattle.std.specs.Prelude.{ℕ, Bool, Option}

-- Number 0 and what it carries, or the refusal's number and the form at fault. A limit says how many segments a route may have.
-- The form at fault is its setup type, 0 where no sub-TLV is at fault. The last three are what it carries of MPLS.
pub record Opened : Type 0 where
  pub number : ℕ
  pub srv6 : Bool
  pub n : Bool
  pub limit : Option ℕ
  pub a : Bool
  pub r : Bool
  pub v : Option ℕ
  pub m : Option ℕ
  pub form : ℕ
  pub mpls : Bool
  pub mplsn : Bool
  pub mplslimit : Option ℕ
