use Rattle.stream_state.proofs.Changes.{kept_push}
use Rattle.stream_state.proofs.Streams.open.Goals as goal

-- the id is above all before it
pub invariant_of-self-2 : goal.invariant_of-self-2
invariant_of-self-2 c =
    rw c.in_ok-push.ensures.items (kept_push c.self.inside.records.items c.self.inside.active c.args.id c.self.invariant (rw c.self.view_is c.requires.above) (rw c.self.view_is c.requires.few))
