-- What the joiner of fragments says, in words of the error table.
use Rattle.std.specs.Prelude.{ℕ}
use Rattle.model.specs.Frames.{protocol_error, enhance_your_calm}
use Rattle.header_blocks.specs.declared.join_fault.JoinFault.{JoinFault}
use Rattle.header_blocks.specs.declared.join_fault.JoinFault.TheVariants.{Outside, Between, TooLong}

-- the code of the connection error that a frame is which may not come next (RFC 9113, section 4.3)
abbrev pub code_of_join : JoinFault → ℕ
code_of_join Outside = protocol_error
code_of_join Between = protocol_error
code_of_join TooLong = enhance_your_calm
