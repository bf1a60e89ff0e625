-- What is kept where a client names limits of its header table.
use Rattle.std.specs.Prelude.{ℕ, List}
use Rattle.theory_header_tables.specs.State.{limits_and}
use Rattle.header_blocks.specs.Encoding.{Encoding}

-- the encoder behind limits that the client names (RFC 7541, section 4.2)
abbrev pub limited : List ℕ → Encoding → Encoding
limited named encoding = record encoding { limits = limits_and encoding.limits named }
