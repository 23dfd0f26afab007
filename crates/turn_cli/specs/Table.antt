-- The table of commands: what `clap` is told, what a command reads, and the lines that show it.
use Rattle.std.specs.Prelude.{ℕ, Bool, true, false, ◌&&◌, ◌||◌, ◌≡◌, find, not, is_some, codes, ◌==◌, map, option_map, flat_map, bytes_eq, List, [], ◌∷◌, ◌++◌, Option, Some, None, if◌then◌else◌}
use Rattle.std.specs.List.{list_all, list_any}
use Rattle.clap.specs.Matches.{first_value, found_of, matched_of, one_text, raw_values, subcommand_name_of}
use Rattle.clap.specs.Walk.{Rule, Text, rows_of}
use Rattle.clap.specs.declared.parser.matches.ArgMatches.{ArgMatches}
use Rattle.clap.specs.Simple.{App, Shape, app_of, subcommand_rows_of, new_app, new_rule, new_shape}
use Rattle.clap.specs.declared.builder.command.Command as clap
use Rattle.clap.specs.declared.builder.command.Command.TheViews.{out-Command}
use Rattle.clap.specs.declared.builder.action.ArgAction.TheVariants.{Set, Append, SetTrue}
use Rattle.turn_cli.specs.declared.command.found.Found.{Found}
use Rattle.turn_cli.specs.declared.command.table.Kind.{Kind}
use Rattle.turn_cli.specs.declared.command.table.Kind.TheVariants.{File, Store, Size, Number, Burst, Moment, Ip, Endpoint, Listen, Name, ShownName, Password, Hex, Command}
use Rattle.turn_cli.specs.declared.command.table.Word.{Word}
use Rattle.turn_cli.specs.declared.command.table.Word.TheVariants.{Flag, Named, Value}
use Rattle.turn_cli.specs.declared.command.table.Part.{Part}
use Rattle.turn_cli.specs.declared.command.table.Part.TheVariants.{Required, Optional, Many, Either, WithEither}
use Rattle.turn_cli.specs.declared.command.table.Synopsis.{Synopsis}

-- ---- the line that shows a command

-- what stands for a value of the kind
abbrev pub shown_kind : Kind → Text
shown_kind File = codes "FILE"
shown_kind Store = codes "STORE"
shown_kind Size = codes "N"
shown_kind Number = codes "N"
shown_kind Burst = codes "N"
shown_kind Moment = codes "S"
shown_kind Ip = codes "IP"
shown_kind Endpoint = codes "IP:PORT"
shown_kind Listen = codes "IP:PORT"
shown_kind Name = codes "NAME"
shown_kind ShownName = codes "NAME"
shown_kind Password = codes "TEXT"
shown_kind Hex = codes "HEX"
shown_kind Command = codes "COMMAND"

-- a word as a line shows it
abbrev pub shown_word : Word → Text
shown_word (Flag name) = codes "--" ++ name.now
shown_word (Named name kind) = codes "--" ++ name.now ++ codes " " ++ shown_kind kind
shown_word (Value kind) = shown_kind kind

-- two words that stand together
abbrev pub shown_both : Word → Word → Text
shown_both one other = shown_word one ++ codes " " ++ shown_word other

-- square brackets are round what may be left out, dots after what may stand several times, and a line between alternatives
abbrev pub shown_part : Part → Text
shown_part (Required word) = codes " " ++ shown_word word
shown_part (Optional word) = codes " [" ++ shown_word word ++ codes "]"
shown_part (Many word) = codes " [" ++ shown_word word ++ codes "]..."
shown_part (Either one other) = codes " " ++ shown_word one ++ codes " | " ++ shown_word other
shown_part (WithEither first one other last) =
    codes " [" ++ shown_both first one ++ codes " | " ++ shown_both first other ++ codes " | " ++ shown_word last ++ codes "]"

-- how the command is called
abbrev pub line_of : Synopsis → Text
line_of synopsis = codes "turn " ++ synopsis.name.now ++ flat_map shown_part synopsis.parts.now

-- ---- what `clap` is told

-- the rule of a word that may be left out; a value alone has the name that it is shown by
abbrev pub rule_of_word : Word → Rule
rule_of_word (Flag name) = record (new_rule name.now) { long = Some name.now; action = Some SetTrue }
rule_of_word (Named name kind) = record (new_rule name.now) { long = Some name.now; action = Some Set }
rule_of_word (Value kind) = record (new_rule (shown_kind kind)) { action = Some Set }

-- what has to stand is required of `clap`, unless another word may stand in its place
abbrev pub rules_of_part : Part → List Rule
rules_of_part (Required word) = record (rule_of_word word) { required = true } ∷ []
rules_of_part (Optional word) = rule_of_word word ∷ []
rules_of_part (Many word) = record (rule_of_word word) { action = Some Append } ∷ []
rules_of_part (Either one other) = rule_of_word one ∷ rule_of_word other ∷ []
rules_of_part (WithEither first one other last) =
    rule_of_word first ∷ rule_of_word one ∷ rule_of_word other ∷ rule_of_word last ∷ []

-- what `clap` reads of a command when it takes words apart
unfoldable pub told : clap.Command → App
told command = app_of command

-- with these rules too
unfoldable pub with_rules : App → List Rule → App
with_rules app rules = record app { top = record app.top { rules = app.top.rules ++ rules } }

-- whether an argument of the command is one of its subcommands' too
abbrev pub has_globals : clap.Command → Bool
has_globals command = (out-Command command).has_globals

-- a command that takes the words of the row and no other
abbrev pub app_of_row : Synopsis → App
app_of_row synopsis = with_rules (new_app synopsis.name.now) (flat_map rules_of_part synopsis.parts.now)

-- no command is below
abbrev pub is_leaf : List Shape → Bool
is_leaf [] = true
is_leaf (command ∷ others) = false

-- the program with these commands, one of which has to be called
unfoldable pub program_of : List Shape → App
program_of commands =
    record {
      top = record (new_shape (codes "turn")) {
        is_leaf = is_leaf commands;
        subcommand_required = true;
        disable_help_subcommand = true;
      };
      subs = commands;
    }

-- the program with a command for each row and no other
abbrev pub app_of_rows : List Synopsis → App
app_of_rows rows = program_of (map (λ row. (app_of_row row).top) rows)

-- ---- what a command reads

-- kinds of values by numbers, to compare them
abbrev pub kind_number : Kind → ℕ
kind_number File = 0
kind_number Store = 1
kind_number Size = 2
kind_number Number = 3
kind_number Burst = 4
kind_number Moment = 5
kind_number Ip = 6
kind_number Endpoint = 7
kind_number Listen = 8
kind_number Name = 9
kind_number ShownName = 10
kind_number Password = 11
kind_number Hex = 12
kind_number Command = 13

-- the word has this name and this kind of value
abbrev pub is_word : Text → Kind → Word → Bool
is_word name kind (Flag own) = false
is_word name kind (Named own form) = bytes_eq own.now name && (kind_number form == kind_number kind)
is_word name kind (Value form) = bytes_eq (shown_kind form) name && (kind_number form == kind_number kind)

-- the words of a part
abbrev pub words_of : Part → List Word
words_of (Required word) = word ∷ []
words_of (Optional word) = word ∷ []
words_of (Many word) = word ∷ []
words_of (Either one other) = one ∷ other ∷ []
words_of (WithEither first one other last) = first ∷ one ∷ other ∷ last ∷ []

-- whether a word of the part has this name and this kind of value
abbrev pub has_word : Text → Kind → Part → Bool
has_word name kind part = list_any (is_word name kind) (words_of part)

-- the row has a word of this name, with this kind of value
abbrev pub takes_word : Synopsis → Text → Kind → Bool
takes_word synopsis name kind = list_any (has_word name kind) synopsis.parts.now

-- the part is a flag of this name
abbrev pub has_flag : Text → Part → Bool
has_flag name (Required word) = false
has_flag name (Optional (Flag own)) = bytes_eq own.now name
has_flag name (Optional (Named own kind)) = false
has_flag name (Optional (Value kind)) = false
has_flag name (Many word) = false
has_flag name (Either one other) = false
has_flag name (WithEither first one other last) = false

-- the text that a word was given: none if the row has no such word
unfoldable pub given : Found → Text → Kind → Option Text
given found name kind = if takes_word found.synopsis.now name kind then first_value (found_of found.matches.now) name else None

-- the texts that a word was given
unfoldable pub all_given : Found → Text → Kind → Option (List Text)
all_given found name kind =
    if takes_word found.synopsis.now name kind then option_map raw_values (matched_of (found_of found.matches.now) name) else None

-- the row has a flag of this name
abbrev pub takes_flag : Synopsis → Text → Bool
takes_flag synopsis name = list_any (has_flag name) synopsis.parts.now

-- a flag is set if it stands, which `clap` says by a text, and not if it doesn't or if the row has none
pub record IsFlag (found : Found) (name : Text) (set : Bool) : Type 0 where
  pub other : takes_flag found.synopsis.now name ≡ false → set ≡ false
  pub none : one_text (found_of found.matches.now) name ≡ None → set ≡ false
  pub off : one_text (found_of found.matches.now) name ≡ Some (codes "false") → set ≡ false
  pub on : takes_flag found.synopsis.now name ≡ true → one_text (found_of found.matches.now) name ≡ Some (codes "true") → set ≡ true

-- ---- which words go together

-- the word stands with a value
abbrev pub is_given : Found → Word → Bool
is_given found (Flag name) = false
is_given found (Named name kind) = is_some (first_value (found_of found.matches.now) name.now)
is_given found (Value kind) = is_some (first_value (found_of found.matches.now) (shown_kind kind))

-- one of the two holds and the other doesn't
abbrev pub differ : Bool → Bool → Bool
differ true other = not other
differ false other = other

-- a word that has to stand does; of two alternatives one does; a word stands with one of two others, and these not without it, and then
-- what may stand in place of both doesn't
abbrev pub is_met_part : Found → Part → Bool
is_met_part found (Required word) = is_given found word
is_met_part found (Optional word) = true
is_met_part found (Many word) = true
is_met_part found (Either one other) = differ (is_given found one) (is_given found other)
is_met_part found (WithEither first one other last) =
    not (differ (is_given found first) (is_given found one || is_given found other))
    && (not (is_given found one && is_given found other) && not (is_given found first && is_given found last))

-- each part of the row is met
abbrev pub is_met : Found → Bool
is_met found = list_all (is_met_part found) found.synopsis.now.parts.now

-- ---- the row that is called

-- the matches are of the command that `clap` found, and the row has its name, and is met
pub record IsFoundIn (rows : List Synopsis) (matches : ArgMatches) (found : Found) : Type 0 where
  pub name : subcommand_name_of matches ≡ Some found.synopsis.now.name.now
  pub row : find (λ row. bytes_eq row.name.now found.synopsis.now.name.now) rows ≡ Some found.synopsis.now
  pub values : option_map (λ p. p.1) (subcommand_rows_of matches) ≡ Some (rows_of (found_of found.matches.now))
  pub met : is_met found ≡ true
