-- The lines of a record: words with one blank between. Bytes are hexadecimal digits in lower case, numbers decimal, the
-- users of an acceptance as the values of attributes are printed (factotum(4) of the Plan 9 manual).
use Rattle.std.specs.Prelude.{ℕ, List, [], ◌∷◌, ◌++◌, codes}
use Rattle.std.specs.List.{flat_map}
use Rattle.std.specs.Fmt.{decimal}
use Rattle.hex.specs.Hex.{encode_lower}
use Rattle.attr_tuples.specs.Words.{value_text}
use Rattle.wire_histories.specs.declared.step.Protocol.{Protocol}
use Rattle.wire_histories.specs.declared.step.Protocol.TheVariants.{P9sk1, P9any, Apop, Cram}
use Rattle.wire_histories.specs.declared.step.Role.{Role}
use Rattle.wire_histories.specs.declared.step.Role.TheVariants.{Client, Server, Speakfor}
use Rattle.wire_histories.specs.declared.step.Step.{Step}
use Rattle.wire_histories.specs.declared.step.Step.TheVariants.{Start, Out, In, Ask, Heard, Unheard, Accept, Fail, Reply, Refused, AsGot, AsGave, AsEnd, Restart, Reload}

-- a word behind its blank
abbrev pub word : List ℕ → List ℕ
word text = 32 ∷ text

abbrev pub protocol_name : Protocol → List ℕ
protocol_name P9sk1 = codes "p9sk1"
protocol_name P9any = codes "p9any"
protocol_name Apop = codes "apop"
protocol_name Cram = codes "cram"

abbrev pub role_name : Role → List ℕ
role_name Client = codes "client"
role_name Server = codes "server"
role_name Speakfor = codes "speakfor"

-- the words of a step
abbrev pub step_words : Step → List ℕ
step_words (Start conv protocol role random) = codes "start" ++ (word conv
    ++ (word (protocol_name protocol) ++ (word (role_name role) ++ word (encode_lower random))))
step_words (Out number conv bytes) = codes "out" ++ (word (decimal number) ++ (word conv ++ word (encode_lower bytes)))
step_words (In conv bytes) = codes "in" ++ (word conv ++ word (encode_lower bytes))
step_words (Ask number conv bytes) = codes "ask" ++ (word (decimal number) ++ (word conv ++ word (encode_lower bytes)))
step_words (Heard conv bytes) = codes "heard" ++ (word conv ++ word (encode_lower bytes))
step_words (Unheard conv) = codes "unheard" ++ word conv
step_words (Accept conv cuid suid) = codes "accept" ++ (word conv ++ (word (value_text cuid) ++ word (value_text suid)))
step_words (Fail conv cause) = codes "fail" ++ (word conv ++ word cause)
step_words (Reply conv answer) = codes "reply" ++ (word conv ++ word answer)
step_words (Refused node answer) = codes "refused" ++ (word node ++ word answer)
step_words (AsGot session bytes words) =
    codes "asgot" ++ (word session ++ (word (encode_lower bytes) ++ flat_map (λ w. word (encode_lower w)) words))
step_words (AsGave number session bytes) =
    codes "asgave" ++ (word (decimal number) ++ (word session ++ word (encode_lower bytes)))
step_words (AsEnd session) = codes "asend" ++ word session
step_words (Restart node) = codes "restart" ++ word node
step_words Reload = codes "reload"

-- the line of a step
unfoldable pub step_line : Step → List ℕ
step_line step = step_words step ++ 10 ∷ []
