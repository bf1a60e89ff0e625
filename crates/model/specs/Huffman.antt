-- The Huffman code (RFC 7541, section 5.2 and appendix B). Bits are numbers 0 and 1.
use Rattle.std.specs.Prelude.{◌≡◌, ℕ, zero, suc, ◌+◌, ◌*◌, ◌-◌, ◌/◌, ◌%◌, ◌^◌, ◌<◌, List, [], ◌∷◌, ◌++◌, length, Contains, replicate, flat_map}

-- So many bits of a number, the highest first.
unfoldable pub bits : ℕ → ℕ → List ℕ
bits zero number = []
bits (suc width) number = number / 2 ^ width % 2 ∷ bits width number

-- The bits of octets, the highest of each first.
abbrev pub octet_bits : List ℕ → List ℕ
octet_bits octets = flat_map (bits 8) octets

-- The symbols whose codes have one length.
pub record Row : Type 0 where
  pub width : ℕ
  pub symbols : List ℕ

abbrev pub row : ℕ → List ℕ → Row
row width symbols = record { width = width; symbols = symbols }

-- All symbols, in the order of length, then of number; 256 ends a string.
unfoldable pub rows : List Row
rows =
    row 5 (48 ∷ 49 ∷ 50 ∷ 97 ∷ 99 ∷ 101 ∷ 105 ∷ 111 ∷ 115 ∷ 116 ∷ [])
    ∷ row 6 (32 ∷ 37 ∷ 45 ∷ 46 ∷ 47 ∷ 51 ∷ 52 ∷ 53 ∷ 54 ∷ 55 ∷ 56 ∷ 57 ∷ 61 ∷ 65 ∷ 95 ∷ 98 ∷ 100 ∷ 102 ∷ 103 ∷ 104 ∷ 108 ∷ 109 ∷ 110 ∷ 112 ∷ 114 ∷ 117 ∷ [])
    ∷ row 7 (58 ∷ 66 ∷ 67 ∷ 68 ∷ 69 ∷ 70 ∷ 71 ∷ 72 ∷ 73 ∷ 74 ∷ 75 ∷ 76 ∷ 77 ∷ 78 ∷ 79 ∷ 80 ∷ 81 ∷ 82 ∷ 83 ∷ 84 ∷ 85 ∷ 86 ∷ 87 ∷ 89 ∷ 106 ∷ 107 ∷ 113 ∷ 118
    ∷ 119 ∷ 120 ∷ 121 ∷ 122 ∷ [])
    ∷ row 8 (38 ∷ 42 ∷ 44 ∷ 59 ∷ 88 ∷ 90 ∷ [])
    ∷ row 10 (33 ∷ 34 ∷ 40 ∷ 41 ∷ 63 ∷ [])
    ∷ row 11 (39 ∷ 43 ∷ 124 ∷ [])
    ∷ row 12 (35 ∷ 62 ∷ [])
    ∷ row 13 (0 ∷ 36 ∷ 64 ∷ 91 ∷ 93 ∷ 126 ∷ [])
    ∷ row 14 (94 ∷ 125 ∷ [])
    ∷ row 15 (60 ∷ 96 ∷ 123 ∷ [])
    ∷ row 19 (92 ∷ 195 ∷ 208 ∷ [])
    ∷ row 20 (128 ∷ 130 ∷ 131 ∷ 162 ∷ 184 ∷ 194 ∷ 224 ∷ 226 ∷ [])
    ∷ row 21 (153 ∷ 161 ∷ 167 ∷ 172 ∷ 176 ∷ 177 ∷ 179 ∷ 209 ∷ 216 ∷ 217 ∷ 227 ∷ 229 ∷ 230 ∷ [])
    ∷ row 22 (129 ∷ 132 ∷ 133 ∷ 134 ∷ 136 ∷ 146 ∷ 154 ∷ 156 ∷ 160 ∷ 163 ∷ 164 ∷ 169 ∷ 170 ∷ 173 ∷ 178 ∷ 181 ∷ 185 ∷ 186 ∷ 187 ∷ 189 ∷ 190 ∷ 196 ∷ 198 ∷ 228
    ∷ 232 ∷ 233 ∷ [])
    ∷ row 23 (1 ∷ 135 ∷ 137 ∷ 138 ∷ 139 ∷ 140 ∷ 141 ∷ 143 ∷ 147 ∷ 149 ∷ 150 ∷ 151 ∷ 152 ∷ 155 ∷ 157 ∷ 158 ∷ 165 ∷ 166 ∷ 168 ∷ 174 ∷ 175 ∷ 180 ∷ 182 ∷ 183
    ∷ 188 ∷ 191 ∷ 197 ∷ 231 ∷ 239 ∷ [])
    ∷ row 24 (9 ∷ 142 ∷ 144 ∷ 145 ∷ 148 ∷ 159 ∷ 171 ∷ 206 ∷ 215 ∷ 225 ∷ 236 ∷ 237 ∷ [])
    ∷ row 25 (199 ∷ 207 ∷ 234 ∷ 235 ∷ [])
    ∷ row 26 (192 ∷ 193 ∷ 200 ∷ 201 ∷ 202 ∷ 205 ∷ 210 ∷ 213 ∷ 218 ∷ 219 ∷ 238 ∷ 240 ∷ 242 ∷ 243 ∷ 255 ∷ [])
    ∷ row 27 (203 ∷ 204 ∷ 211 ∷ 212 ∷ 214 ∷ 221 ∷ 222 ∷ 223 ∷ 241 ∷ 244 ∷ 245 ∷ 246 ∷ 247 ∷ 248 ∷ 250 ∷ 251 ∷ 252 ∷ 253 ∷ 254 ∷ [])
    ∷ row 28 (2 ∷ 3 ∷ 4 ∷ 5 ∷ 6 ∷ 7 ∷ 8 ∷ 11 ∷ 12 ∷ 14 ∷ 15 ∷ 16 ∷ 17 ∷ 18 ∷ 19 ∷ 20 ∷ 21 ∷ 23 ∷ 24 ∷ 25 ∷ 26 ∷ 27 ∷ 28 ∷ 29 ∷ 30 ∷ 31 ∷ 127 ∷ 220 ∷ 249 ∷ [])
    ∷ row 30 (10 ∷ 13 ∷ 22 ∷ 256 ∷ [])
    ∷ []

-- A symbol, and the bits that stand for it.
pub record Code : Type 0 where
  pub symbol : ℕ
  pub bits : List ℕ

-- The codes of a row: the next number, and from each symbol to the next the number one higher.
unfoldable pub row_codes : ℕ → ℕ → List ℕ → List Code
row_codes width number [] = []
row_codes width number (symbol ∷ symbols) =
    let code : Code = record { symbol = symbol; bits = bits width number } in code ∷ row_codes width (number + 1) symbols

-- The codes of rows, where the row before had this width and this number comes next: from one length to the next it is
-- shifted left by the difference.
unfoldable pub codes_from : ℕ → ℕ → List Row → List Code
codes_from width number [] = []
codes_from width number (row ∷ rows) =
    let next : ℕ = number * 2 ^ (row.width - width) in
    row_codes row.width next row.symbols ++ codes_from row.width (next + length row.symbols) rows

-- The 257 pairs; the first code is five zeros.
unfoldable pub huffman_code : List Code
huffman_code = codes_from 5 0 rows

-- These bits stand for this symbol.
abbrev pub IsCode : ℕ → List ℕ → Type 0
IsCode symbol bits = let code : Code = record { symbol = symbol; bits = bits } in Contains huffman_code code

-- The bits are the codes of the octets, joined.
abbrev pub AreCodes : List ℕ → List ℕ → Type 0
AreCodes bits [] = bits ≡ []
AreCodes bits (octet ∷ string) =
    (code more : List ℕ) × (octet < 256) × IsCode octet code × (bits ≡ code ++ more) × AreCodes more string

-- The bits of the octets are the codes of the string's octets, then fewer than eight ones.
pub record Huff (octets string : List ℕ) : Type 0 where
  pub coded : List ℕ
  pub padding : ℕ
  pub are_codes : AreCodes coded string
  pub is_short : padding < 8
  pub is : octet_bits octets ≡ coded ++ replicate padding 1
