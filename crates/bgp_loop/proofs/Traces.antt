-- The trace of a run.
use Rattle.bgp_wire.proofs.Std.{◌≡◌, ℕ, true, List, [], ◌∷◌, ◌++◌, map, Ok, Err, sym, ap, subst, ◌∙◌, append_assoc}
use Rattle.std.proofs.lemmas.List.{append-nil}
use Rattle.bgp_engine.specs.declared.fault.ToolFault.{ToolFault}
use Rattle.bgp_engine.specs.Prelude.{AppendsFront, FailsWithin}
use Rattle.bgp_session.specs.declared.moves.Move.{Move}
use Rattle.bgp_session.specs.declared.report.Report.{Report}
use Rattle.bgp_session.specs.declared.side.Side.TheVariants.{A, B}
use Rattle.bgp_session.specs.Prelude.{IsReported, sights_behind, Came, observed, failed_behind}
use Rattle.bgp_script.specs.declared.script.Script.{Script}
use Rattle.bgp_script.specs.ReportText.{report_text}
use Rattle.bgp_script.specs.Script.{script_of}
use Rattle.bgp_loop.specs.Loop.{Io, IsTraced, AnswersTrace}
use Rattle.bgp_loop.specs.Trace.{Coming, with_octets, nothing_traced, Traced, with_coming, traced}

-- ---- received octets are appended to those received before

abbrev with_all : Coming → List ℕ → Coming
with_all c octets = record { place = c.place; octets = octets }

pub came_to_a : (t : Traced) (octets : List ℕ) → observed traced t (map (Came A) octets) ≡ with_coming A t (with_octets t.a octets)
came_to_a t [] = ap (λ (o : List ℕ). with_coming A t (with_all t.a o)) (sym (append-nil t.a.octets))
came_to_a t (octet ∷ octets) =
    came_to_a (with_coming A t (with_octets t.a (octet ∷ []))) octets ∙ ap (λ (o : List ℕ). with_coming A t (with_all t.a o)) (append_assoc t.a.octets (octet ∷ []) octets)

pub came_to_b : (t : Traced) (octets : List ℕ) → observed traced t (map (Came B) octets) ≡ with_coming B t (with_octets t.b octets)
came_to_b t [] = ap (λ (o : List ℕ). with_coming B t (with_all t.b o)) (sym (append-nil t.b.octets))
came_to_b t (octet ∷ octets) =
    came_to_b (with_coming B t (with_octets t.b (octet ∷ []))) octets ∙ ap (λ (o : List ℕ). with_coming B t (with_all t.b o)) (append_assoc t.b.octets (octet ∷ []) octets)

-- ---- what the code has of a run

module _ (text : List ℕ) (io : Io) (report : Report) where
  -- what the moves show was reported to the tracer
  pub traces_so : (script : Script) (moves : List Move) (old new : Traced) → script_of text ≡ Ok script → moves ≡ script.moves → old ≡ nothing_traced
      → (io.honest ≡ true → IsReported script.a script.b moves report) → io.failed_new ≡ failed_behind io.failed_old report.answers
      → (io.honest ≡ true → new ≡ observed traced old (sights_behind script.a script.b moves report.answers)) → IsTraced text io report new.text
  traces_so script moves old new read are begins reported failures told = record {
    ran = record {
      script = script;
      read = read;
      reported = λ honest. subst (λ (l : List Move). IsReported script.a script.b l report) are (reported honest);
      failures = failures;
    };
    traced = λ honest.
        ap (λ (t : Traced). t.text) (told honest)
        ∙ ap (λ (t : Traced). (observed traced t (sights_behind script.a script.b moves report.answers)).text) begins
        ∙ ap (λ (l : List Move). (observed traced nothing_traced (sights_behind script.a script.b l report.answers)).text) are;
  }

  -- a write failed
  pub fails_so : (trace written : List ℕ) (fault : ToolFault) → IsTraced text io report trace → written ≡ trace ++ report_text report
      → FailsWithin io.writer_old io.writer_new written fault → AnswersTrace text io (Err fault)
  fails_so trace written fault traces is fails =
      subst (λ (f : ToolFault). AnswersTrace text io (Err f)) (sym fails.is_write) (record {
        report = report;
        trace = trace;
        traced = traces;
        wrote = subst (λ (w : List ℕ). AppendsFront io.writer_old io.writer_new w) is fails.wrote;
      })
