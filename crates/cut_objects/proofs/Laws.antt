-- The ways that a cut ends, and that each answer is determined.
use Prim.Native.Nat.{ℕ, ◌≤◌, ◌<◌}
use mathlib.Core.Path.{◌≡◌}
use mathlib.Core.List.{List}
use lib.ListN.{length}
use borrow.Author.Tests.{le-leb, lt-leb}
use Rattle.answers.proofs.Determined.{determined}
use Rattle.objects.specs.Objects.{header, object_length}
use Rattle.cut_objects.specs.Cutting.{cut_of, first_object, rest_objects}

module _ (s : List ℕ) where
  -- no header
  pub cut_short : length s < header → length s ≡ cut_of s
  unfolding cut_of
  cut_short h = rw (lt-leb header (length s) h)

  -- a length under 4
  pub cut_under : header ≤ length s → object_length s < header → length s ≡ cut_of s
  unfolding cut_of
  cut_under h k = rw (le-leb header (length s) h, lt-leb header (object_length s) k)

  -- too little left
  pub cut_missing : header ≤ length s → header ≤ object_length s → length s < object_length s → length s ≡ cut_of s
  unfolding cut_of
  cut_missing h k l = rw (le-leb header (length s) h, le-leb header (object_length s) k, lt-leb (object_length s) (length s) l)

  -- the length
  pub cut_whole : header ≤ length s → header ≤ object_length s → object_length s ≤ length s → object_length s ≡ cut_of s
  unfolding cut_of
  cut_whole h k l = rw (le-leb header (length s) h, le-leb header (object_length s) k, le-leb (object_length s) (length s) l)

  -- Any two answers that fit the contract of a call are equal.
  pub cut_determined : {x y : ℕ} → x ≡ cut_of s → y ≡ cut_of s → x ≡ y
  cut_determined = determined

  pub first_determined : {x y : List ℕ} → x ≡ first_object s → y ≡ first_object s → x ≡ y
  first_determined = determined

  pub rest_determined : {x y : List ℕ} → x ≡ rest_objects s → y ≡ rest_objects s → x ≡ y
  rest_determined = determined
