-- The limits that the definitions cite: first those of the standards, then those of this project's
-- profile.
use Rattle.std.specs.Prelude.{ℕ}

-- ---- the standards'

-- the size with which each window begins, while no setting says otherwise (RFC 9113, section 6.9.2)
abbrev pub first_window : ℕ
first_window = 65535

-- the greatest size that a window may have (RFC 9113, section 6.9.1)
abbrev pub greatest_window : ℕ
greatest_window = 2147483647

-- the greatest maximum of a table, which is the first one of a direction (RFC 9113, section 6.5.2)
abbrev pub first_maximum : ℕ
first_maximum = 4096

-- ---- a connection's streams and frames

-- how many streams are opened on a connection; a GOAWAY with the id of the last is sent then
abbrev pub most_streams : ℕ
most_streams = 10000

-- how many are active at once: the SETTINGS_MAX_CONCURRENT_STREAMS that the gateway announces
-- (RFC 9113, section 6.5.2)
abbrev pub most_active : ℕ
most_active = 100

-- the most streams that a client may reset while they are active
abbrev pub most_resets : ℕ
most_resets = 1000

-- the most octets of a header block
abbrev pub longest_block : ℕ
longest_block = 65536

-- the most CONTINUATION frames of a header block
abbrev pub most_continuations : ℕ
most_continuations = 64

-- the most octets of a field list, each field counted with the 32 that RFC 7541, section 4.1, adds:
-- the SETTINGS_MAX_HEADER_LIST_SIZE that the gateway announces (RFC 9113, section 6.5.2)
abbrev pub largest_fields : ℕ
largest_fields = 16384

-- ---- what the client hasn't taken

-- from this many octets on that the client hasn't taken, no part of a response is begun
abbrev pub high_water : ℕ
high_water = 65536

-- while more octets than these aren't taken, parts of responses alone go out
abbrev pub most_untaken : ℕ
most_untaken = 1048576

-- ---- responses and connections with upstreams

-- the longest head, and the longest trailer section, in octets
abbrev pub longest_section : ℕ
longest_section = 16384

-- the most fields of a head, and of a trailer section
abbrev pub most_fields : ℕ
most_fields = 100

-- the most interim heads of a response
abbrev pub most_interims : ℕ
most_interims = 8
