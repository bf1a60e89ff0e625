-- How many octets lie in this crate's types. Each count takes the struct apart by the names of all its fields, and counts each by its type: what lies in
-- one field more has to be counted here.
use Rattle.std.specs.Prelude.{ℕ, ◌+◌, Bool, length, Option, Some, None}
use Rattle.model.specs.Decoding.{Partial}
use Rattle.model.specs.Tables.{total_size}
use Rattle.header_blocks.specs.declared.block.Block.TheInside.{Inside as Block}
use Rattle.header_blocks.specs.declared.joiner.Joiner.TheInside.{Inside as Joiner}
use Rattle.header_blocks.specs.declared.decoder.Decoder.TheInside.{Inside as Decoder}
use Rattle.header_blocks.specs.declared.encoder.Encoder.TheInside.{Inside as Encoder}
use Rattle.header_blocks.specs.declared.fault.DecodeFault.{DecodeFault}
use Rattle.header_blocks.specs.declared.limits.Limits.{Limits}
use Rattle.header_blocks.specs.declared.policy.Policy.{Policy}

-- none in a number, and none in a flag
abbrev pub in_number : ℕ → ℕ
in_number number = 0

abbrev pub in_flag : Bool → ℕ
in_flag flag = 0

-- none in why a block can't be decoded, and none in how fields are written, each of which is one of a few names
abbrev pub in_fault_if : Option DecodeFault → ℕ
in_fault_if fault = 0

abbrev pub in_policy : Policy → ℕ
in_policy policy = 0

-- in the limits since the last block, if there are some
abbrev pub in_limits_if : Option Limits → ℕ
in_limits_if limits = 0

-- the octets of a block that was begun, if one was
abbrev pub octets_begun : Option Partial → ℕ
octets_begun None = 0
octets_begun (Some block) = length block.fragments

-- those that lie in a block: its fragments
abbrev pub in_block : Block → ℕ
in_block = λ record { id = id; ends = ends; fragments = fragments }. in_number id + in_flag ends + length fragments.items

-- in a joiner: the block that was begun
abbrev pub in_joiner : Joiner → ℕ
in_joiner = λ record { alloc = alloc; begun = begun; continuations = continuations }. in_number continuations + octets_begun begun

-- in a decoder: its table, each field with the 32 that its size counts; the table before the last block is there for clauses alone
abbrev pub in_decoder : Decoder → ℕ
in_decoder = λ record { table = table; fault = fault; before = before }. in_fault_if fault + total_size table.fields

-- in an encoder: its table, counted so too
abbrev pub in_encoder : Encoder → ℕ
in_encoder = λ record { alloc = alloc; policy = policy; table = table; maximum = maximum; limits = limits; refused = refused }.
    in_policy policy + in_number maximum + in_limits_if limits + in_flag refused + total_size table.fields
