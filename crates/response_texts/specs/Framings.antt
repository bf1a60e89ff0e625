-- How a body is framed, as a plain value.
use Rattle.std.specs.Prelude.{ℕ, List}
use Rattle.model.specs.ResponseHeads as model
use Rattle.response_texts.specs.declared.framing.Framing.{Framing}
use Rattle.response_texts.specs.declared.framing.Framing.TheVariants as framing

-- with the names that the head's Connection gave
abbrev pub framing_view : List (List ℕ) → Framing → model.Framing
framing_view named framing.Bodiless = model.Framing.Bodiless
framing_view named framing.Chunks = model.Framing.Chunks named
framing_view named (framing.Sized count) = model.Framing.Sized count
framing_view named framing.UntilEnd = model.Framing.UntilEnd
