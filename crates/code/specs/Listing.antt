-- Document 01, "Dumps", of `fieldlist` (RULES 10): the text that it prints.
use Rattle.std.specs.Prelude.{ℕ, zero, suc, ◌+◌, ◌/◌, ◌%◌, cond, List, [], ◌∷◌, ◌++◌, ltb, eqb}
use Rattle.code.specs.declared.Kind.{Kind}
use Rattle.code.specs.Lists.{ascii}
use Rattle.code.specs.Calls.{refusal_in, generation_in, number_in, left_in}
use Rattle.code.specs.Dump.{Step, taken, ended, stopped, outcome, onward, walk}

-- 01, Dumps, of `fieldlist`; RULES 10: "All numbers are decimal": in at most so many digits
unfoldable pub spelled : ℕ → ℕ → List ℕ
spelled zero x = []
spelled (suc most) x = cond (ltb x 10) ((48 + x) ∷ []) (spelled most (x / 10) ++ ((48 + x % 10) ∷ []))

-- RULES 10: a number below 2^64 takes at most 20
abbrev pub decimal : ℕ → List ℕ
decimal x = spelled 20 x

-- 01, Dumps, of `fieldlist`; RULES 10: "one line per record: `serial generation number left`, or `serial refused N`"
unfoldable pub record_line : ℕ → List ℕ → List ℕ
record_line serial reply =
    decimal serial ++ cond (eqb (refusal_in reply) 0)
    (ascii " " ++ (decimal (generation_in reply) ++ (ascii " " ++ (decimal (number_in reply) ++ (ascii " " ++ (decimal (left_in reply) ++ ascii "\n"))))))
    (ascii " refused " ++ (decimal (refusal_in reply) ++ ascii "\n"))

-- 01, Dumps, of `fieldlist`; RULES 10: "The last line is `records N`, N counting whole records"
unfoldable pub last_line : ℕ → List ℕ
last_line count = ascii "records " ++ (decimal count ++ ascii "\n")

-- 01, Dumps, of `fieldlist`; RULES 10: "At refusal 7 it prints `stopped 7 at OFFSET`"; "At refusal 8 the only line is `refused 8`"
unfoldable pub stop_lines : ℕ → ℕ → List ℕ → List ℕ
stop_lines count k [] = ascii "refused " ++ (decimal k ++ ascii "\n")
stop_lines count k (offset ∷ more) = ascii "stopped " ++ (decimal k ++ (ascii " at " ++ (decimal offset ++ (ascii "\n" ++ last_line count))))

-- RULES 10: a line per record and the last lines, after `count` records
unfoldable pub lines : List ℕ → ℕ → List Step → List ℕ
lines bytes count [] = []
lines bytes count (taken r ∷ steps) = record_line r.serial (outcome bytes r) ++ lines bytes (suc count) steps
lines bytes count (ended ∷ steps) = last_line count
lines bytes count (stopped k carried ∷ steps) = stop_lines count k carried

-- RULES 10: the same from a place on, after so many records
abbrev pub text_from : Kind → List ℕ → ℕ → ℕ → List ℕ
text_from kind bytes at count = lines bytes count (onward kind bytes at)

-- 01, Dumps, of `fieldlist`; RULES 10: "`fieldlist` reads standard input and prints": the text of a dump
unfoldable pub listing : Kind → List ℕ → List ℕ
listing kind bytes = lines bytes 0 (walk kind bytes)
