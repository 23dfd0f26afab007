-- What is added in turn: words to a line, rules to a command, and commands to the program.
use Rattle.std.proofs.Common.{◌≡◌, ℕ, ◌+◌, ◌<◌, List, [], ◌∷◌, ◌++◌, length, get_or, take, map, flat_map, refl, ap, sym, ◌∙◌, append_assoc, add-one}
use Rattle.std.proofs.Math.Seq.{take-suc}
use Rattle.std.proofs.lemmas.List.{map-append, append-nil}
use Rattle.std.proofs.lemmas.List.Concat.{flat_map-append}
use Rattle.clap.specs.Walk.{Rule, Text}
use Rattle.clap.specs.Simple.{App, Shape, new_app, with_subcommand}
use Rattle.turn_cli.specs.Table.{app_of_row, app_of_rows, program_of, rules_of_part, shown_part, with_rules}
use Rattle.turn_cli.specs.declared.command.table.Part.{Part}
use Rattle.turn_cli.specs.declared.command.table.Synopsis.{Synopsis}

-- the pieces of one element more
pub pieces_after : {X A : Type 0} (f : X → List A) (xs : List X) (i : ℕ) (x : X) → i < length xs
    → flat_map f (take (i + 1) xs) ≡ flat_map f (take i xs) ++ f (get_or xs i x)
pieces_after f xs i x inside =
    rw (add-one, take-suc xs i x inside)
    (flat_map-append f (take i xs) (get_or xs i x ∷ []) ∙ ap (λ w. flat_map f (take i xs) ++ w) (append-nil (f (get_or xs i x))))

-- the image of one element more
pub images_after : {X A : Type 0} (f : X → A) (xs : List X) (i : ℕ) (x : X) → i < length xs
    → map f (take (i + 1) xs) ≡ map f (take i xs) ++ f (get_or xs i x) ∷ []
images_after f xs i x inside = rw (add-one, take-suc xs i x inside) (map-append f (take i xs) (get_or xs i x ∷ []))

pub rules_after : (app : App) (xs ys : List Rule) → with_rules (with_rules app xs) ys ≡ with_rules app (xs ++ ys)
unfolding with_rules
rules_after app xs ys =
    ap (λ (rules : List Rule). record app { top = record app.top { rules = rules } }) (append_assoc app.top.rules xs ys)

pub no_rules : (name : Text) → with_rules (new_app name) [] ≡ new_app name
unfolding with_rules
no_rules name = refl

pub one_more : (commands : List Shape) (command : Shape)
    → with_subcommand (program_of commands) command ≡ program_of (commands ++ command ∷ [])
unfolding program_of
one_more [] command = refl
one_more (first ∷ others) command = refl

-- one part more
pub part_after : (app : App) (parts : List Part) (i : ℕ) (part : Part) (old new : App) → i < length parts
    → new ≡ with_rules old (rules_of_part (get_or parts i part)) → old ≡ with_rules app (flat_map rules_of_part (take i parts))
    → new ≡ with_rules app (flat_map rules_of_part (take (i + 1) parts))
part_after app parts i part old new inside added before =
    added
    ∙ ap (λ (a : App). with_rules a (rules_of_part (get_or parts i part))) before
    ∙ rules_after app (flat_map rules_of_part (take i parts)) (rules_of_part (get_or parts i part))
    ∙ ap (λ (rules : List Rule). with_rules app rules) (sym (pieces_after rules_of_part parts i part inside))

-- one row more
pub row_after : (rows : List Synopsis) (i : ℕ) (row : Synopsis) (old command new : App) → i < length rows
    → new ≡ with_subcommand old command.top → old ≡ app_of_rows (take i rows) → command ≡ app_of_row (get_or rows i row)
    → new ≡ app_of_rows (take (i + 1) rows)
row_after rows i row old command new inside added before taken =
    added
    ∙ ap (λ (a : App). with_subcommand a command.top) before
    ∙ ap (λ (a : App). with_subcommand (app_of_rows (take i rows)) a.top) taken
    ∙ one_more (map (λ r. (app_of_row r).top) (take i rows)) (app_of_row (get_or rows i row)).top
    ∙ ap program_of (sym (images_after (λ r. (app_of_row r).top) rows i row inside))

-- the words of one part more
pub shown_after : (start : Text) (parts : List Part) (i : ℕ) (part : Part) (old new : Text) → i < length parts
    → new ≡ old ++ shown_part (get_or parts i part) → old ≡ start ++ flat_map shown_part (take i parts)
    → new ≡ start ++ flat_map shown_part (take (i + 1) parts)
shown_after start parts i part old new inside added before =
    added
    ∙ ap (λ (text : Text). text ++ shown_part (get_or parts i part)) before
    ∙ append_assoc start (flat_map shown_part (take i parts)) (shown_part (get_or parts i part))
    ∙ ap (λ (text : Text). start ++ text) (sym (pieces_after shown_part parts i part inside))
