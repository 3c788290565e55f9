-- What a load writes: one line with the numbers of the report on the generated script, as a compact
-- JSON object.
use Rattle.std.specs.{Prelude.{ℕ, List, ◌++◌, codes, length}, Fmt.{decimal}}
use Rattle.serde_json.specs.Data.{Data, number, unsigned, object, member, no_members}
use Rattle.ptu_lines.specs.Script.{script_lines}
use Rattle.ptu_world.specs.{World.{Stock, no_judges}, Facts.{world_of}}
use Rattle.ptu_world.specs.Report.{granted_count, report_lines, short_count}
use Rattle.ptu_lab.specs.declared.done.Done.{Done}
use Rattle.ptu_show.specs.Generated.{generated}

-- the numbers of the report on a script without slaves: its lines and the datagrams sent, and its
-- counts of `granted` and `short` lines
unfoldable pub numbers_of : List ℕ → Done
numbers_of script = record {
  lines = length (script_lines script);
  datagrams = length (world_of no_judges script).sent;
  granted = granted_count (report_lines no_judges script);
  refused = short_count (report_lines no_judges script);
}

-- the JSON object of these numbers, its keys in this order
abbrev pub summary_data : Done → Data
summary_data done = object
    (member (codes "datagrams") (number (unsigned done.datagrams))
    (member (codes "granted") (number (unsigned done.granted))
    (member (codes "lines") (number (unsigned done.lines))
    (member (codes "refused") (number (unsigned done.refused))
    no_members))))

-- its compact text
unfoldable pub object_text : Done → List ℕ
object_text done =
    codes "{\"datagrams\":" ++ (decimal done.datagrams
    ++ (codes ",\"granted\":" ++ (decimal done.granted
    ++ (codes ",\"lines\":" ++ (decimal done.lines
    ++ (codes ",\"refused\":" ++ (decimal done.refused ++ codes "}")))))))

-- the line of it
abbrev pub summary_text : Done → List ℕ
summary_text done = object_text done ++ codes "\n"

-- what a load of n clients writes
abbrev pub summary : ℕ → List ℕ
summary n = summary_text (numbers_of (generated n))
