use Rattle.std.proofs.Common.{◌≡◌, map, take, string_bytes}
use Rattle.h2replay_setup.proofs.setting.words_of.Given as goal

abbrev pub invariant-loop-argument : goal.invariant-loop-argument
invariant-loop-argument l = map (λ word. word.now) l.words.items ≡ map string_bytes (take l.argument-index l.arguments)
