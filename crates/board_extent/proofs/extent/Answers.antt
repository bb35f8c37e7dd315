use Rattle.board_extent.proofs.Reached.{met_more, met_all}
use Rattle.board_extent.proofs.extent.Goals as goal

pub loop-k-preserved : goal.loop-k-preserved
loop-k-preserved c = met_more c.args.b.keys.now _ _ _ c.loop-k.invariant

pub loop-v-preserved : goal.loop-v-preserved
loop-v-preserved c = met_more c.args.b.versions.now _ _ _ c.loop-v.invariant

pub loop-l-preserved : goal.loop-l-preserved
loop-l-preserved c = met_more c.args.b.lengths.now _ _ _ c.loop-l.invariant

pub loop-f-preserved : goal.loop-f-preserved
loop-f-preserved c = met_more c.args.b.forms.now _ _ _ c.loop-f.invariant

pub returns : goal.returns
returns c =
    let b = c.args.b in
    record {
      reach = record {
        most = c.guess-m.ensures.most;
        keys = met_all b.keys.now _ _ _ c.loop-k.invariant c.loop-k-test.false c.if-key-ne0.false;
        versions = met_all b.versions.now _ _ _ c.loop-v.invariant c.loop-v-test.false c.if-version-ne0.false;
        lengths = met_all b.lengths.now _ _ _ c.loop-l.invariant c.loop-l-test.false c.if-length-ne0.false;
        forms = met_all b.forms.now _ _ _ c.loop-f.invariant c.loop-f-test.false c.if-form-ne0.false;
      };
    }
