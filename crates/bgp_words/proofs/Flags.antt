-- What a parse found: a command and its flags.
use Rattle.bgp_words.proofs.Prelude.{◌≡◌, List, [], ◌∷◌, Option, None, Some, Result, option_map, refl, sym, ap, subst, ◌∙◌, inl, inr, Box, Global, FailsBy}
use Rattle.bgp_words.proofs.Prelude.{HasKind, Kinds, Row, Text, subcommand_name_of, subcommand_of, subcommand_rows, subcommand_rows_of, Asks, IsAsked}
use Rattle.bgp_words.proofs.Prelude.{bgp_command, drops_by, file_in, first_kinds, request_by}
use Rattle.std.specs.Box.{box_value}
use Rattle.clap.specs.declared.parser.matches.ArgMatches.{ArgMatches}
use Rattle.clap.specs.declared.parser.matches.ArgMatches.TheViews.{out-ArgMatches, out-SubCommand}
use Rattle.clap.specs.declared.parser.matches.SubCommand.{SubCommand}
use Rattle.clap.specs.declared.error.Error.{Error}
use Rattle.bgp_words.specs.declared.request.Request.{Request}

-- the faults found after a parse without an error
pub fails_behind : {T : Type 0} (r : Result T Error) (kinds later : Kinds) → kinds ≡ [] → FailsBy later r → FailsBy (first_kinds kinds later) r
fails_behind r kinds later none f = subst (λ (k : Kinds). FailsBy (first_kinds k later) r) (sym none) f

pub has_kind-first : (kinds later : Kinds) (e : Error) → HasKind kinds e → HasKind (first_kinds kinds later) e
has_kind-first [] later e (inl memory) = inl memory
has_kind-first [] later e (inr is) = absurd is
has_kind-first (kind ∷ kinds) later e h = h

-- a command is found with its name and its rows
pub found_both : (o : Option (Text × List Row)) (name : Text) (rows : List Row) → Some name ≡ option_map (λ p. p.0) o → Some rows ≡ option_map (λ p. p.1) o → o ≡ Some (name, rows)
found_both None name rows n r = absurd cc
found_both (Some p) name rows n r = let a : p.0 ≡ name = cc in let b : p.1 ≡ rows = cc in pair_is p name rows a b
  where
    pair_is : (p : Text × List Row) (name : Text) (rows : List Row) → p.0 ≡ name → p.1 ≡ rows → Some p ≡ Some (name, rows)
    pair_is p name rows a b = rw (sym a, sym b) refl

-- a command's name, by its name and its rows
pub name-rows : (m : ArgMatches) → subcommand_name_of m ≡ option_map (λ p. p.0) (subcommand_rows_of m)
name-rows m = by_cases (out-ArgMatches m).subcommand
  where
    by_cases : (o : Option (Box SubCommand Global)) → option_map (λ (b : Box SubCommand Global). (out-SubCommand (box_value b)).name.now) o ≡ option_map (λ p. p.0) (subcommand_rows o)
    by_cases None = refl
    by_cases (Some b) = refl

-- the request of a command, if it is named
pub asks_behind : (words : List Text) (name : Text) (rows : List Row) (asked : Option (Request × Text)) → subcommand_of bgp_command words ≡ Some (name, rows)
    → IsAsked name rows asked → Asks words asked
asks_behind words name rows asked found a = subst (Asks words) (sym a.is) (record {
  drops = a.drops;
  left_out = ap drops_by found ∙ a.left_out;
  is = ap (option_map (λ p. (request_by p.0 p.1 a.drops, file_in p.1))) found;
})
