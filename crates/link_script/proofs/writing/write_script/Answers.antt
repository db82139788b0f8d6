use Rattle.link_script.proofs.WrittenText.{parts_of_text}
use Rattle.link_script.proofs.writing.write_script.Goals as goal

pub returns : goal.returns
returns c =
    rw (c.into_bytes.ensures.value, c.in_ok-put-2.ensures, c.in_ok-put_events.ensures, c.as_slice-3.ensures, c.in_ok-put_paths.ensures, c.as_slice-2.ensures, c.in_ok-put_buffer.ensures, c.in_ok-put_short.ensures, c.in_ok-put_checksum.ensures, c.in_ok-put_seed.ensures, c.in_ok-put.ensures, c.of-version.ensures, c.as_slice.ensures, c.new-text.ensures.bytes) (parts_of_text c.args.script.now)
