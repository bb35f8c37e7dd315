-- A head whose numbers fit the bits that they are written in. No promise rests on it: inner functions ask for it, and proofs show it.
use Rattle.std.specs.Prelude.{◌≤◌, ◌<◌}
use Rattle.forms.specs.declared.Form.{Form}
use Rattle.subobject.specs.declared.head.Head.{Head}
use Rattle.subobject.specs.Segments.{flags_octet}

-- Each flag is one bit.
pub record Bits (h : Head) : Type 0 where
  pub l : h.l ≤ 1
  pub v : h.v ≤ 1
  pub t : h.t ≤ 1
  pub f : h.f ≤ 1
  pub s : h.s ≤ 1
  pub c : h.c ≤ 1
  pub m : h.m ≤ 1

pub record Small (form : Form) (h : Head) : Type 0 where
  pub kind : h.kind < 128
  pub size : h.size < 256
  pub nt : h.nt < 16
  pub bits : Bits h
  pub flags : flags_octet form h < 256
