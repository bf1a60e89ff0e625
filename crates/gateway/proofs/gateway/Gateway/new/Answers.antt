use Rattle.std.proofs.Common.{refl, sym, ap, ◌∙◌}
use Rattle.header_blocks.specs.Encoding.{first_encoding}
use Rattle.gateway.specs.Setups.{setup_of}
use Rattle.gateway.proofs.Setting.{first_stands}
use Rattle.gateway.proofs.gateway.Gateway.new.Goals as goal

pub returns : goal.returns
returns c = first_stands (setup_of c.args.config.now) _ (c.new-2.ensures.book (setup_of c.args.config.now) (sym c.more_room.ensures)) c.new-3.ensures c.new-4.ensures c.new-2.ensures.table (c.new-6.ensures ∙ ap first_encoding c.encoding.ensures) c.new-5.ensures refl _
    (record { servable = c.requires; routes = sym c.in_ok-routes.ensures; max_body = refl; passing = c.passing_on.ensures; keep = refl; most_idle = refl }) refl c.new.ensures.items refl
