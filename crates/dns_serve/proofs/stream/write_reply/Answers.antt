use Rattle.dns_spec.proofs.Common.{sym, ap, ◌∙◌, subst}
use Rattle.std.specs.Option.{option_copied}
use Rattle.dns_spec.specs.Stream.{reply_frame}
use Rattle.dns_name.specs.Counted.{Writes}
use Rattle.dns_serve.specs.Streams.{reply_over_tcp}
use Rattle.dns_serve.proofs.Replies.{frame_written}
use Rattle.dns_serve.proofs.stream.write_reply.Goals as goal

pub returns : goal.returns
returns g c =
    let same = sym (ap option_copied c.in-Some.is) ∙ c.respond_in.ensures.octets
    ∙ ap (λ s. reply_over_tcp s.zone c.args.message.now) c.new.ensures in
    subst (λ t. Writes g.W.Write.contents c.args.sink.now c.write_all.new.self c.write_all.result t)
    (frame_written c.in-Some.reply.now _ _ _ c.split_at_mut-front.result.1.now c.write_u16.ensures
    c.split_at_mut-length.ensures.front_len c.copy_from_slice.ensures.after
    ∙ ap reply_frame same) c.write_all.ensures
