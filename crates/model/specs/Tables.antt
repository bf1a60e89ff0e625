-- Tables of fields (RFC 7541, sections 2.3 and 4, appendix A).
use Rattle.std.specs.Prelude.{ℕ, zero, suc, ◌+◌, ◌-◌, nat_le, if◌then◌else◌, List, [], ◌∷◌, ◌++◌, length, Option, None, slice_get, codes}
use Rattle.model.specs.Limits.{first_maximum}
use Rattle.model.specs.Messages.{Field}

-- The size of a field: its two texts, and 32 (section 4.1).
abbrev pub field_size : Field → ℕ
field_size field = length field.name + length field.value + 32

-- The sizes together.
unfoldable pub total_size : List Field → ℕ
total_size [] = 0
total_size (field ∷ fields) = field_size field + total_size fields

-- The longest front whose sizes sum to at most a maximum.
unfoldable pub keep : ℕ → List Field → List Field
keep max [] = []
keep max (field ∷ fields) = if nat_le (field_size field) max then field ∷ keep (max - field_size field) fields else []

-- A dynamic table: its fields, the newest first, and the maximum of their sizes (section 2.3.2).
pub record Table : Type 0 where
  pub fields : List Field
  pub maximum : ℕ

-- The table of a direction before its first block.
abbrev pub first_table : Table
first_table = record { fields = []; maximum = first_maximum }

-- A field is inserted; the oldest go until all fit (section 4.4).
abbrev pub added : Field → Table → Table
added field table = record { fields = keep table.maximum (field ∷ table.fields); maximum = table.maximum }

-- A new maximum; the oldest go until all fit (section 4.3).
abbrev pub resized : ℕ → Table → Table
resized maximum table = record { fields = keep maximum table.fields; maximum = maximum }

abbrev pub field_of : List ℕ → List ℕ → Field
field_of name value = record { name = name; value = value }

-- The static table (appendix A), the entry with index 1 first.
unfoldable pub static_table : List Field
static_table =
    field_of (codes ":authority") []
    ∷ field_of (codes ":method") (codes "GET")
    ∷ field_of (codes ":method") (codes "POST")
    ∷ field_of (codes ":path") (codes "/")
    ∷ field_of (codes ":path") (codes "/index.html")
    ∷ field_of (codes ":scheme") (codes "http")
    ∷ field_of (codes ":scheme") (codes "https")
    ∷ field_of (codes ":status") (codes "200")
    ∷ field_of (codes ":status") (codes "204")
    ∷ field_of (codes ":status") (codes "206")
    ∷ field_of (codes ":status") (codes "304")
    ∷ field_of (codes ":status") (codes "400")
    ∷ field_of (codes ":status") (codes "404")
    ∷ field_of (codes ":status") (codes "500")
    ∷ field_of (codes "accept-charset") []
    ∷ field_of (codes "accept-encoding") (codes "gzip, deflate")
    ∷ field_of (codes "accept-language") []
    ∷ field_of (codes "accept-ranges") []
    ∷ field_of (codes "accept") []
    ∷ field_of (codes "access-control-allow-origin") []
    ∷ field_of (codes "age") []
    ∷ field_of (codes "allow") []
    ∷ field_of (codes "authorization") []
    ∷ field_of (codes "cache-control") []
    ∷ field_of (codes "content-disposition") []
    ∷ field_of (codes "content-encoding") []
    ∷ field_of (codes "content-language") []
    ∷ field_of (codes "content-length") []
    ∷ field_of (codes "content-location") []
    ∷ field_of (codes "content-range") []
    ∷ field_of (codes "content-type") []
    ∷ field_of (codes "cookie") []
    ∷ field_of (codes "date") []
    ∷ field_of (codes "etag") []
    ∷ field_of (codes "expect") []
    ∷ field_of (codes "expires") []
    ∷ field_of (codes "from") []
    ∷ field_of (codes "host") []
    ∷ field_of (codes "if-match") []
    ∷ field_of (codes "if-modified-since") []
    ∷ field_of (codes "if-none-match") []
    ∷ field_of (codes "if-range") []
    ∷ field_of (codes "if-unmodified-since") []
    ∷ field_of (codes "last-modified") []
    ∷ field_of (codes "link") []
    ∷ field_of (codes "location") []
    ∷ field_of (codes "max-forwards") []
    ∷ field_of (codes "proxy-authenticate") []
    ∷ field_of (codes "proxy-authorization") []
    ∷ field_of (codes "range") []
    ∷ field_of (codes "referer") []
    ∷ field_of (codes "refresh") []
    ∷ field_of (codes "retry-after") []
    ∷ field_of (codes "server") []
    ∷ field_of (codes "set-cookie") []
    ∷ field_of (codes "strict-transport-security") []
    ∷ field_of (codes "transfer-encoding") []
    ∷ field_of (codes "user-agent") []
    ∷ field_of (codes "vary") []
    ∷ field_of (codes "via") []
    ∷ field_of (codes "www-authenticate") []
    ∷ []

-- The field of an index: the static table from 1 on, then the dynamic one (section 2.3.3).
abbrev pub look_up : Table → ℕ → Option Field
look_up table zero = None
look_up table (suc place) = slice_get (static_table ++ table.fields) place
