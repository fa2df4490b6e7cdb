use Rattle.dns_tools.proofs.Common.{rules, [], ◌++◌, codes, refl, flat_map, append_assoc, Appends-nil, DnsMessage, Octets, Option, Counted, header_line, question_line, section_line, Writes-held, Writes-same, message_text}
use Rattle.dns_tools.proofs.LineParts.{IsLeft, text_written, text_begun}
use Rattle.dns_tools.proofs.message.write_message.Goals as goal

-- the lines of each part of a message
abbrev questions : DnsMessage → Octets
questions m = flat_map question_line m.questions

abbrev answers : DnsMessage → Octets
answers m = flat_map (section_line (codes "answer")) m.answers

abbrev authorities : DnsMessage → Octets
authorities m = flat_map (section_line (codes "authority")) m.authorities

abbrev additionals : DnsMessage → Octets
additionals m = flat_map (section_line (codes "additional")) m.additionals

-- all lines are still to be written
start : {V : Type 0} (contents : V → Option Octets) (old : Counted V) (m : DnsMessage)
    → IsLeft contents old old (message_text m)
    (header_line m ++ (questions m ++ (answers m ++ (authorities m ++ additionals m))))
start contents old m = record {
  written = record { done = []; appended = Appends-nil _; whole_is = simp append_assoc };
  counted = refl;
}

pub returns-in_err-write_header : goal.returns-in_err-write_header
returns-in_err-write_header g c =
    let m = c.args.message.now in
    text_begun (header_line m) _ (start _ _ m) refl
    c.in_err-write_header.ensures c.from_residual.ensures.0

pub returns-in_err-write_questions : goal.returns-in_err-write_questions
returns-in_err-write_questions g c =
    let m = c.args.message.now in
    let one = text_written (header_line m) _ (start _ _ m) refl c.in_ok-write_header.ensures in
    text_begun (questions m) _ one refl (Writes-same (search rules) c.in_err-write_questions.ensures)
    c.from_residual-in_err-write_questions.ensures.0

pub returns-in_err-write_records : goal.returns-in_err-write_records
returns-in_err-write_records g c =
    let m = c.args.message.now in
    let one = text_written (header_line m) _ (start _ _ m) refl c.in_ok-write_header.ensures in
    let two = text_written (questions m) _ one refl
    (Writes-same (search rules) c.in_ok-write_questions.ensures) in
    text_begun (answers m) _ two refl (Writes-same (search rules) c.in_err-write_records.ensures)
    c.from_residual-in_err-write_records.ensures.0

pub returns-in_err-write_records-2 : goal.returns-in_err-write_records-2
returns-in_err-write_records-2 g c =
    let m = c.args.message.now in
    let one = text_written (header_line m) _ (start _ _ m) refl c.in_ok-write_header.ensures in
    let two = text_written (questions m) _ one refl
    (Writes-same (search rules) c.in_ok-write_questions.ensures) in
    let three = text_written (answers m) _ two refl
    (Writes-same (search rules) c.in_ok-write_records.ensures) in
    text_begun (authorities m) _ three refl
    (Writes-same (search rules) c.in_err-write_records-2.ensures)
    c.from_residual-in_err-write_records-2.ensures.0

pub returns : goal.returns
returns g c =
    let m = c.args.message.now in
    let one = text_written (header_line m) _ (start _ _ m) refl c.in_ok-write_header.ensures in
    let two = text_written (questions m) _ one refl
    (Writes-same (search rules) c.in_ok-write_questions.ensures) in
    let three = text_written (answers m) _ two refl
    (Writes-same (search rules) c.in_ok-write_records.ensures) in
    let four = text_written (authorities m) _ three refl
    (Writes-same (search rules) c.in_ok-write_records-2.ensures) in
    Writes-held _ _ four.written four.counted
    (Writes-same (search rules) c.write_records-3.ensures)
