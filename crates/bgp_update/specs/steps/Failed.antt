-- What keeps the attributes of a message from being written, found in one pass over them.
use Rattle.std.specs.Prelude.{Bool, ◌&&◌, ◌||◌, List, Option, None}
use Rattle.std.specs.List.{list_any}
use Rattle.bgp_open.specs.declared.context.Context.{Context}
use Rattle.bgp_attr.specs.declared.attr.Attr.{Attr}
use Rattle.bgp_attr.specs.Prelude.{is_too_wide, is_as4, is_empty, has_as_zero, stands_twice, is_out_of_place}
use Rattle.bgp_update.specs.declared.failed.Failed.{Failed}
use Rattle.bgp_update.specs.declared.invalid.Invalid.{Invalid}
use Rattle.bgp_update.specs.declared.invalid.Invalid.TheVariants as invalid
use Rattle.bgp_update.specs.Written.{refused_if}

-- which tests some of the attributes fail
abbrev pub failed_by : Context → List Attr → Failed
failed_by ctx xs = record {
  too_wide = list_any (is_too_wide ctx) xs;
  as4 = list_any is_as4 xs;
  other_family = list_any (is_out_of_place ctx) xs;
  empty = list_any is_empty xs;
  as_zero = list_any has_as_zero xs;
  twice = list_any stands_twice xs;
}

-- and those that one more attribute fails
abbrev pub also_failed : Failed → Context → Attr → Failed
also_failed f ctx x = record {
  too_wide = f.too_wide || is_too_wide ctx x;
  as4 = f.as4 || is_as4 x;
  other_family = f.other_family || is_out_of_place ctx x;
  empty = f.empty || is_empty x;
  as_zero = f.as_zero || has_as_zero x;
  twice = f.twice || stands_twice x;
}

-- the first reason among them and the test of attributes of unrecognised types
abbrev pub first_of : Failed → Bool → Bool → Option Invalid
first_of f as4 bad_others =
    refused_if f.too_wide invalid.AsWidth (
    refused_if (as4 && f.as4) invalid.As4 (
    refused_if f.other_family invalid.Family (
    refused_if f.empty invalid.Empty (
    refused_if bad_others invalid.Others (
    refused_if f.as_zero invalid.AsZero (
    refused_if f.twice invalid.Twice
    None))))))
