use Rattle.octets.proofs.Tests.{tests}
use Rattle.border_opened.proofs.opened.form_out.Goals as goal

pub returns-then-form-lt256 : goal.returns-then-form-lt256
returns-then-form-lt256 c = record { form = search tests }

pub returns : goal.returns
returns c = record { form = search tests }
