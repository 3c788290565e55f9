-- What a grandmaster answers by its control port (the project's own choice).
use Rattle.std.specs.Prelude.{ℕ, List, ◌++◌, codes, decimal}
use Rattle.ptu_config.specs.declared.{answer.Reply.{Reply}, answer.Status.{Status}, command.Cause.{Cause}}
use Rattle.ptu_config.specs.declared.answer.Reply.TheVariants.{Done, Shed, Stands, Bad}
use Rattle.ptu_config.specs.declared.command.Cause.TheVariants.{Words, Class, Capacity}

-- the word of a cause
abbrev pub cause_word : Cause → List ℕ
cause_word Words = codes "words"
cause_word Class = codes "class"
cause_word Capacity = codes "capacity"

-- the lines of what is granted
abbrev pub grant_lines : Status → List ℕ
grant_lines s =
    codes "class " ++ (decimal s.class ++ (codes "\ncapacity " ++ (decimal s.capacity
    ++ (codes "\nheld " ++ (decimal s.held ++ codes "\n")))))

-- the lines of the live grants, by kind
abbrev pub live_lines : Status → List ℕ
live_lines s =
    codes "live_announce " ++ (decimal s.live_announce ++ (codes "\nlive_sync " ++ (decimal s.live_sync
    ++ (codes "\nlive_delay_resp " ++ (decimal s.live_delay_resp ++ codes "\n")))))

-- the lines of what was decided and sent so far
abbrev pub count_lines : Status → List ℕ
count_lines s =
    codes "granted " ++ (decimal s.granted ++ (codes "\nrefused " ++ (decimal s.refused
    ++ (codes "\nsent " ++ (decimal s.sent ++ (codes "\nfailed " ++ (decimal s.failed ++ codes "\n")))))))

-- the lines of where it is
abbrev pub place_lines : Status → List ℕ
place_lines s = codes "round " ++ (decimal s.round ++ (codes "\nmoment " ++ (decimal s.moment ++ codes "\n")))

-- all lines of an answer
unfoldable pub reply_text : Reply → List ℕ
reply_text Done = codes "ok\n"
reply_text (Shed count) = codes "ok\nshed " ++ (decimal count ++ codes "\n")
reply_text (Stands s) = codes "ok\n" ++ (grant_lines s ++ (live_lines s ++ (count_lines s ++ place_lines s)))
reply_text (Bad cause) = codes "bad " ++ (cause_word cause ++ codes "\n")
