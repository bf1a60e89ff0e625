use Rattle.std.proofs.Common.{◌≡◌, true, sym, ◌∙◌, ap}
use Rattle.std.specs.Prelude.{is_some}
use Rattle.theory_requests.specs.Lines.{find}
use Rattle.upstream_connections.specs.Connections.{number_of, is_idle_one}
use Rattle.upstream_connections.specs.Progress.{heard_of}
use Rattle.refinement.specs.View.{View}
use Rattle.event_handlers.specs.exchanges.Finishing.{marked_as, is_idle_then}
use Rattle.event_handlers.proofs.exchanges.Finishes.{marked_open, works_for_none, finished_by, put_by}
use Rattle.event_handlers.proofs.exchanges.hearing.finish.Goals as goal

pub served_by-requires : goal.served_by-requires
served_by-requires c =
    let old : View = record { inbound = c.session.inside.inbound; offers = c.session.inside.offers; upstreams = c.session.inside.upstreams; marks = c.session.inside.marks; encoding = c.session.inside.encoder; untaken = c.session.inside.untaken } in
    let marked : record old { upstreams = c.mark_heard.new.self } ≡ marked_as c.args.most_idle c.args.k (heard_of c.args.verdict) c.args.session.now = ap (λ u. let v : View = record old { upstreams = u } in v) c.mark_heard.ensures ∙ ap (marked_as c.args.most_idle c.args.k (heard_of c.args.verdict)) c.session.view_is in
    ap (λ (v : View). is_some (find number_of c.args.k v.upstreams.live)) marked ∙ marked_open c.args.most_idle c.args.k (heard_of c.args.verdict) c.args.session.now c.requires.opened

pub returns-then-is_none-clause-kept : goal.returns-then-is_none-clause-kept
returns-then-is_none-clause-kept c =
    let old : View = record { inbound = c.session.inside.inbound; offers = c.session.inside.offers; upstreams = c.session.inside.upstreams; marks = c.session.inside.marks; encoding = c.session.inside.encoder; untaken = c.session.inside.untaken } in
    let marked : record old { upstreams = c.mark_heard.new.self } ≡ marked_as c.args.most_idle c.args.k (heard_of c.args.verdict) c.args.session.now = ap (λ u. let v : View = record old { upstreams = u } in v) c.mark_heard.ensures ∙ ap (marked_as c.args.most_idle c.args.k (heard_of c.args.verdict)) c.session.view_is in
    let there : is_some (find number_of c.args.k c.mark_heard.new.self.live) ≡ true = ap (λ (v : View). is_some (find number_of c.args.k v.upstreams.live)) marked ∙ marked_open c.args.most_idle c.args.k (heard_of c.args.verdict) c.args.session.now c.requires.opened in
    let idle : is_idle_then c.args.most_idle c.args.k (heard_of c.args.verdict) c.args.session.now ≡ true =
    sym (ap (λ (v : View). is_idle_one (find number_of c.args.k v.upstreams.live)) marked) ∙ works_for_none (find number_of c.args.k c.mark_heard.new.self.live) c.served_by.result there c.served_by.ensures true c.if-is_none.ensures in
    marked ∙ finished_by c.args.most_idle c.args.k (heard_of c.args.verdict) c.args.session.now true idle

pub returns-then-is_none-clause-puts : goal.returns-then-is_none-clause-puts
returns-then-is_none-clause-puts c =
    let old : View = record { inbound = c.session.inside.inbound; offers = c.session.inside.offers; upstreams = c.session.inside.upstreams; marks = c.session.inside.marks; encoding = c.session.inside.encoder; untaken = c.session.inside.untaken } in
    let marked : record old { upstreams = c.mark_heard.new.self } ≡ marked_as c.args.most_idle c.args.k (heard_of c.args.verdict) c.args.session.now = ap (λ u. let v : View = record old { upstreams = u } in v) c.mark_heard.ensures ∙ ap (marked_as c.args.most_idle c.args.k (heard_of c.args.verdict)) c.session.view_is in
    let there : is_some (find number_of c.args.k c.mark_heard.new.self.live) ≡ true = ap (λ (v : View). is_some (find number_of c.args.k v.upstreams.live)) marked ∙ marked_open c.args.most_idle c.args.k (heard_of c.args.verdict) c.args.session.now c.requires.opened in
    let idle : is_idle_then c.args.most_idle c.args.k (heard_of c.args.verdict) c.args.session.now ≡ true =
    sym (ap (λ (v : View). is_idle_one (find number_of c.args.k v.upstreams.live)) marked) ∙ works_for_none (find number_of c.args.k c.mark_heard.new.self.live) c.served_by.result there c.served_by.ensures true c.if-is_none.ensures in
    put_by c.args.most_idle c.args.k (heard_of c.args.verdict) c.args.session.now c.args.out.now true idle
