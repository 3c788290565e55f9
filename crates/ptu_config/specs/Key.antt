-- The names of the settings.
use Rattle.std.specs.Prelude.{ℕ, List, codes}
use Rattle.ptu_config.specs.declared.key.Key.{Key}
use Rattle.ptu_config.specs.declared.key.Key.TheVariants.{Ip, EventPort, GeneralPort, Clock, Port, Domain, Rounds, Repeat, Class, Capacity, MaxDuration, Epoch, Senders, ChangeRound, NewCapacity, TwoStep, ControlPort, ControlKey, WaitToRestore, AnnounceTimeout, SyncTimeout, DelayTimeout, LogAnnounce, LogSync, LogDelay, Duration, Masters}

-- the name of a setting, as a document writes it
abbrev pub name_of : Key → List ℕ
name_of Ip = codes "ip"
name_of EventPort = codes "event_port"
name_of GeneralPort = codes "general_port"
name_of Clock = codes "clock"
name_of Port = codes "port"
name_of Domain = codes "domain"
name_of Rounds = codes "rounds"
name_of Repeat = codes "repeat"
name_of Class = codes "class"
name_of Capacity = codes "capacity"
name_of MaxDuration = codes "max_duration"
name_of Epoch = codes "epoch"
name_of Senders = codes "senders"
name_of ChangeRound = codes "change_round"
name_of NewCapacity = codes "new_capacity"
name_of TwoStep = codes "two_step"
name_of ControlPort = codes "control_port"
name_of ControlKey = codes "control_key"
name_of WaitToRestore = codes "wait_to_restore"
name_of AnnounceTimeout = codes "announce_timeout"
name_of SyncTimeout = codes "sync_timeout"
name_of DelayTimeout = codes "delay_timeout"
name_of LogAnnounce = codes "log_announce"
name_of LogSync = codes "log_sync"
name_of LogDelay = codes "log_delay"
name_of Duration = codes "duration"
name_of Masters = codes "masters"
