use Rattle.connection_state.proofs.Results.{read_on_ok, unread_on_err}
use Rattle.connection_state.proofs.tables.read_block.Goals as goal

pub returns-clause-read : goal.returns-clause-read
returns-clause-read c = read_on_ok c.args.decoder.now.table c.decode.new.self.table c.args.block.now c.args.cap c.decode.result c.decode.ensures.decoded

pub returns-clause-unread : goal.returns-clause-unread
returns-clause-unread c = unread_on_err c.args.decoder.now.table c.args.block.now c.args.decoder.now.fault c.decode.result c.requires c.decode.ensures.no_block
