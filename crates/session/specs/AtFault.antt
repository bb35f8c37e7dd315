-- The number of the form at fault: its setup type, or that of no form.
use Rattle.std.specs.Prelude.{ℕ, Option, None, Some}
use Rattle.objects.specs.Objects.{mpls_setup, srv6_setup}
use Rattle.session.specs.Sessions.{no_form}
use Rattle.session.specs.declared.at_fault.AtFault.{AtFault}
use Rattle.session.specs.declared.at_fault.AtFault.TheVariants.{Mpls, Srv6}

abbrev pub fault_number : AtFault → ℕ
fault_number Mpls = mpls_setup
fault_number Srv6 = srv6_setup

abbrev pub form_number : Option AtFault → ℕ
form_number None = no_form
form_number (Some form) = fault_number form
