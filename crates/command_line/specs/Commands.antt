-- The command line as clap sees it.
use Rattle.std.specs.Prelude.{◌≡◌, ◌∷◌, [], Some, codes, true, false, pos}
use Rattle.clap.specs.Simple.{on_top}
use Rattle.clap.specs.Words.{App, Rule, Text, app_of, rule_of, new_app, new_rule, with_rule, with_subcommand}
use Rattle.clap.specs.declared.builder.arg.Arg.{Arg}
use Rattle.clap.specs.declared.builder.action.ArgAction.TheVariants.{SetTrue}
use Rattle.clap.specs.declared.builder.command.Command.{Command}
use Rattle.clap.specs.declared.builder.command.Command.TheViews.{out-Command as fields_of}
use Rattle.clap.specs.declared.builder.value_parser.ValueParser.TheVariants as parser

-- an argument of one level, with this rule
abbrev pub IsArg : Arg → Rule → Type 0
IsArg a rule = (rule_of a ≡ rule) × (a.global ≡ false)

-- a command with these rules, and no argument of several levels
abbrev pub IsCommand : Command → App → Type 0
IsCommand c app = (app_of c ≡ app) × ((fields_of c).has_globals ≡ false)

-- an argument that has to be there, as text
abbrev pub text : Text → Rule
text name = record (new_rule name) { required = true }

-- the directory of the store
abbrev pub dir : Rule
dir = text (codes "DIR")

-- the time that is asked about, or up to which a vacuum goes
abbrev pub time : Rule
time = text (codes "TIME")

-- where the interval that is asked about begins
abbrev pub from : Rule
from = text (codes "FROM")

-- where the interval that is asked about ends
abbrev pub to : Rule
to = text (codes "TO")

-- the time that is asked about, which may be left out
abbrev pub time_or_now : Rule
time_or_now = new_rule (codes "TIME")

-- where the interval begins, which may be left out
abbrev pub from_or_first : Rule
from_or_first = new_rule (codes "FROM")

-- where the interval ends, which may be left out
abbrev pub to_or_now : Rule
to_or_now = new_rule (codes "TO")

-- the relation of a key, of 16 bits
abbrev pub relation : Rule
relation = record (text (codes "REL")) { parser = Some (parser.Signed (pos 0) (pos 65_535)) }

-- the record of a key, of 64 bits
abbrev pub record_number : Rule
record_number = record (text (codes "REC")) { parser = Some (parser.Unsigned 0 18_446_744_073_709_551_615) }

-- the label of the commits that are looked for, of 64 bits
abbrev pub label_number : Rule
label_number = record (text (codes "LABEL")) { parser = Some (parser.Unsigned 0 18_446_744_073_709_551_615) }

-- the label of a commit: 0 unless the option says another number
abbrev pub label : Rule
label = record (new_rule (codes "label")) {
  long = Some (codes "label");
  value_names = 1;
  parser = Some (parser.Unsigned 0 18_446_744_073_709_551_615);
  defaults = codes "0" ∷ [];
}

-- the fields of a value, 1 to 16
abbrev pub fields : Rule
fields = record (text (codes "FIELD")) { range = Some (record { start_inclusive = 1; end_inclusive = 16 }) }

-- a flag: set where the words have it
abbrev pub flag : Text → Rule
flag name = record (new_rule name) { long = Some name; action = Some SetTrue }

-- fields as text
abbrev pub text_flag : Rule
text_flag = flag (codes "text")

-- the answer in JSON
abbrev pub json_flag : Rule
json_flag = flag (codes "json")

-- the answer in CSV
abbrev pub csv_flag : Rule
csv_flag = flag (codes "csv")

-- times as instants
abbrev pub instants_flag : Rule
instants_flag = flag (codes "instants")

-- a command whose answer may be text, JSON or CSV
abbrev pub with_forms : App → App
with_forms app = with_rule (with_rule (with_rule app text_flag) json_flag) csv_flag

-- and whose times may be instants
abbrev pub with_styles : App → App
with_styles app = with_rule (with_forms app) instants_flag

-- the profile of a new store: 3 unless the option says 4
abbrev pub profile : Rule
profile = record (new_rule (codes "profile")) {
  long = Some (codes "profile");
  value_names = 1;
  parser = Some (parser.Signed (pos 3) (pos 4));
  defaults = codes "3" ∷ [];
}

-- how many slots a new store has, which may be left out
abbrev pub slots : Rule
slots = record (new_rule (codes "slots")) { long = Some (codes "slots"); value_names = 1; parser = Some (parser.Signed (pos 0) (pos 4_294_967_295)) }

-- how many extents a new store has, which may be left out
abbrev pub extents : Rule
extents = record (new_rule (codes "extents")) { long = Some (codes "extents"); value_names = 1; parser = Some (parser.Signed (pos 0) (pos 4_294_967_295)) }

-- how many threads commit: 1 to 8
abbrev pub writers : Rule
writers = record (text (codes "WRITERS")) { parser = Some (parser.Signed (pos 1) (pos 8)) }

-- how many threads ask: 0 to 8
abbrev pub readers : Rule
readers = record (text (codes "READERS")) { parser = Some (parser.Signed (pos 0) (pos 8)) }

-- how many rounds each thread makes: 1 to 1000
abbrev pub rounds : Rule
rounds = record (text (codes "ROUNDS")) { parser = Some (parser.Signed (pos 1) (pos 1000)) }

-- `format DIR [--profile P] [--slots N] [--extents E]`: makes an empty store
abbrev pub format : App
format = with_rule (with_rule (with_rule (with_rule (new_app (codes "format")) dir) profile) slots) extents

-- `run DIR`: runs a script on a store
abbrev pub run : App
run = with_rule (new_app (codes "run")) dir

-- a command about one record of a store
abbrev pub of_record : Text → App
of_record name = with_rule (with_rule (with_rule (new_app name) dir) relation) record_number

-- `at DIR REL REC TIME`: asks for a record's value at a time
abbrev pub at : App
at = with_rule (of_record (codes "at")) time

-- `between DIR REL REC FROM TO`: asks for a record's rows between two times
abbrev pub between : App
between = with_rule (with_rule (of_record (codes "between")) from) to

-- `get DIR REL REC [TIME] [--text] [--json] [--csv]`: asks for a record's value
abbrev pub get : App
get = with_forms (with_rule (of_record (codes "get")) time_or_now)

-- `scan DIR REL [TIME] [--text] [--json] [--csv]`: asks for the records of a relation
abbrev pub scan : App
scan = with_forms (with_rule (with_rule (with_rule (new_app (codes "scan")) dir) relation) time_or_now)

-- `history DIR REL REC [FROM [TO]] [--text] [--json] [--csv] [--instants]`: asks for a record's rows
abbrev pub history : App
history = with_styles (with_rule (with_rule (of_record (codes "history")) from_or_first) to_or_now)

-- `times DIR LABEL [--text] [--json] [--csv] [--instants]`: asks for the times of the commits with a label
abbrev pub times : App
times = with_styles (with_rule (with_rule (new_app (codes "times")) dir) label_number)

-- `put DIR REL REC FIELD.. [--label N] [--text]`: writes a record's value
abbrev pub put : App
put = with_rule (with_rule (with_rule (of_record (codes "put")) fields) label) text_flag

-- `del DIR REL REC [--label N]`: deletes a record's value
abbrev pub del : App
del = with_rule (of_record (codes "del")) label

-- `vacuum DIR TIME`: archives up to a time, and then reclaims
abbrev pub vacuum : App
vacuum = with_rule (with_rule (new_app (codes "vacuum")) dir) time

-- `grow DIR`: adds a piece of slots to a store
abbrev pub grow : App
grow = with_rule (new_app (codes "grow")) dir

-- `floor DIR REL TIME`: lets a relation's history before a time go
abbrev pub floor : App
floor = with_rule (with_rule (with_rule (new_app (codes "floor")) dir) relation) time

-- `info DIR [--json]`: shows what a store has
abbrev pub info : App
info = with_rule (with_rule (new_app (codes "info")) dir) json_flag

-- `dump DIR`: shows the log of a store
abbrev pub dump : App
dump = with_rule (new_app (codes "dump")) dir

-- `stress WRITERS READERS ROUNDS`: tries a store that several threads share
abbrev pub stress : App
stress = with_rule (with_rule (with_rule (new_app (codes "stress")) writers) readers) rounds

-- the command with no subcommand yet, which has a version
abbrev pub top : App
top = on_top (λ s. record s { has_version = true }) (new_app (codes "timestore"))

-- the commands that make a store and run scripts
abbrev pub making : App
making = with_subcommand (with_subcommand top format.top) run.top

-- these, and the commands that ask about a record
abbrev pub asking : App
asking = with_subcommand (with_subcommand making at.top) between.top

-- these, and the commands that do a job
abbrev pub working : App
working = with_subcommand (with_subcommand asking vacuum.top) grow.top

-- these, and the command that shows the log
abbrev pub keeping : App
keeping = with_subcommand working dump.top

-- these, and the commands that ask about what stands now
abbrev pub reading : App
reading = with_subcommand (with_subcommand (with_subcommand (with_subcommand keeping get.top) scan.top) history.top) times.top

-- these, and the commands that write one record
abbrev pub writing : App
writing = with_subcommand (with_subcommand reading put.top) del.top

-- these, and the commands that raise a floor and show what a store has
abbrev pub telling : App
telling = with_subcommand (with_subcommand writing floor.top) info.top

-- the whole command line: these, and the command that tries a store with threads
abbrev pub timestore : App
timestore = with_subcommand telling stress.top
