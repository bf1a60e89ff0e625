use Rattle.std.proofs.Common.{sym}
use Rattle.header_blocks.proofs.Gathered.{stays_over, one_more, no_room}
use Rattle.header_blocks.proofs.gather.Gathering.add.Goals as goal

pub returns-in_default : goal.returns-in_default
returns-in_default c = stays_over c.args.field c.args.self.now.fields.items c.args.self.now.room c.in_default.is

pub returns-in_ok-push : goal.returns-in_ok-push
returns-in_ok-push c = one_more c.args.field c.args.self.now.fields.items c.push.new.fields.items c.args.self.now.room c.room_behind-self.result c.in-Some.room c.in-Some.is c.room_behind-self.ensures c.in_ok-push.ensures (sym c.if-is_some.ensures)

pub returns-else-is_some : goal.returns-else-is_some
returns-else-is_some c = no_room c.args.field c.args.self.now.fields.items c.clear.new.self.items c.args.self.now.room c.room_behind-self.result c.in-Some.room c.in-Some.is c.room_behind-self.ensures (sym c.if-is_some.ensures)
